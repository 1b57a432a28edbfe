-- The desk and the sinks of a call.
use Rattle.std.specs.Prelude.{◌≡◌}
use Rattle.cq_program.specs.Views.{DeskView, Sinks, IsUnwritten}

-- the desk and the sinks of a call of a program, as it began and as it ended
pub record Call : Type 0 where
  pub desk : DeskView
  pub desk_after : DeskView
  pub sinks : Sinks

abbrev pub call_of : DeskView → DeskView → Sinks → Call
call_of desk after sinks = record { desk = desk; desk_after = after; sinks = sinks }

-- nothing changed
pub record IsUnmoved (call : Call) : Type 0 where
  pub desk : call.desk_after ≡ call.desk
  pub sinks : IsUnwritten call.sinks
