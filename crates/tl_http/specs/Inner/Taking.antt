-- Taking bytes off the front of an input, some of which were read and are kept.
use Rattle.std.specs.Prelude.{◌≡◌, ◌<◌, [], ◌++◌, true, false, length}
use Rattle.tl_device.specs.Device.{Passage, HasFailed}
use Rattle.tl_device.specs.Reading.{Gave}
use Rattle.tl_hash.specs.Bytes.{Bytes}
use Rattle.tl_http.specs.declared.window.Filled.{Filled}
use Rattle.tl_http.specs.declared.window.Filled.TheVariants.{Failed, Ended, More}

-- what was kept, with the bytes read behind it, is the text taken and then what is kept now
pub record Took (i : Passage) (old new text : Bytes) : Type 0 where
  pub bytes : Bytes
  pub gave : Gave i bytes false
  pub joined : old ++ bytes ≡ text ++ new

-- one read behind what is kept
abbrev pub Fills : Passage → Bytes → Bytes → Filled → Type 0
Fills i old new Failed = HasFailed i
Fills i old new Ended = Gave i [] true × (new ≡ old)
Fills i old new More = (more : Bytes) × (0 < length more) × Gave i more false × (new ≡ old ++ more)

-- a read if nothing is kept
abbrev pub Refills : Passage → Bytes → Bytes → Filled → Type 0
Refills i old new Failed = HasFailed i
Refills i old new Ended = Gave i [] true × (old ≡ [])
Refills i old new More = Took i old new [] × (0 < length new)
