-- The words after the program's name.
use Rattle.std.specs.Prelude.{◌≡◌, ◌<◌, ℕ, List, [], length, drop, Result, Ok, Err}
use Rattle.cq_outside.specs.declared.system.WordsFault.{WordsFault}
use Rattle.cq_outside.specs.declared.system.WordsFault.TheVariants.{NoText, NoMemory}

-- the result of a call of the system: the program's name with the words after it, or a fault
abbrev pub Given : Type 0
Given = Result (List (List ℕ)) WordsFault

-- these are all the words after the name, in their order; there are none if some word is not UTF-8
abbrev pub AreWordsOf : List (List ℕ) → Given → Type 0
AreWordsOf words (Ok all) = words ≡ drop 1 all
AreWordsOf words (Err NoText) = words ≡ []
AreWordsOf words (Err NoMemory) = ⊥

-- memory can run out if there are words to keep, and ran out if the system says so
abbrev pub MayWantMemory : Given → Type 0
MayWantMemory (Ok all) = 1 < length all
MayWantMemory (Err NoText) = ⊥
MayWantMemory (Err NoMemory) = Unit {0}
