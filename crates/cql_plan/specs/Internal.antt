pub mod CommonParts
pub mod Items
pub mod KeyRows
