use Rattle.tl_witness.proofs.SoundLaws.{opened_sound}
use Rattle.tl_witness.proofs.law.opened_books_are_sound.Goals as goal

pub returns : goal.returns
returns c = opened_sound
