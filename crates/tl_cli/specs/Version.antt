-- The version of the program.
use Rattle.std.specs.Prelude.{codes, Result, Ok, Err}
use Rattle.tl_hash.specs.Bytes.{Bytes}
use Rattle.tl_text.specs.Text.{line}
use Rattle.tl_device.specs.Device.{Passage, WroteWhole, WrotePart}
use Rattle.tl_run.specs.declared.fault.RunFault.{RunFault}
use Rattle.tl_run.specs.declared.fault.RunFault.TheVariants.{Write}

-- the program's name and version, and the kit that it is proved with
abbrev pub version_line : Bytes
version_line = line (codes "tlog 0.1.0 (proved with rattle-kit-13 logic dac8208d650f15bf)")

-- a text is printed
abbrev pub PrintsText : Bytes → Passage → Result (Unit {0}) RunFault → Type 0
PrintsText text o (Ok done) = WroteWhole o text
PrintsText text o (Err Write) = WrotePart o text
PrintsText text o (Err fault) = ⊥

-- the version is printed
abbrev pub PrintsVersion : Passage → Result (Unit {0}) RunFault → Type 0
PrintsVersion o result = PrintsText version_line o result
