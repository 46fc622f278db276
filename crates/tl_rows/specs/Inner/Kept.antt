-- What a step leaves as it was.
use Rattle.std.specs.Prelude.{◌≡◌, List}
use Rattle.std.specs.List.{All}
use Rattle.tl_sequencer.specs.Log.{IsSenderOf, Log, Sender, rings_of}
use Rattle.tl_publisher.specs.Operating.{Operated, IsOperating}

-- it operates, and its lanes are those that it had: the ends of its submitters are its ends
pub record IsKept {A : Type 0} (before after : Operated A) : Type 0 where
  pub operating : IsOperating after
  pub rings : rings_of after.log ≡ rings_of before.log

-- these are submitters of the log
abbrev pub AreSenders : {A : Type 0} → Log A → List (Sender A) → Type 0
AreSenders log senders = All (λ s. IsSenderOf s log) senders
