-- The entry that stands for a file.
use Rattle.std.proofs.Common.{◌≡◌, ◌++◌, codes, Option, option_map, string_bytes, sym, ap, subst, ◌∙◌}
use Rattle.std.specs.Global.{Global}
use Rattle.std.specs.declared.string.String.{String}
use Rattle.hex.specs.Hex.{encode_lower}
use Rattle.sha2.specs.Sha256.{sha256}
use Rattle.tl_hash.specs.Bytes.{Bytes}
use Rattle.tl_prove.specs.Entry.{IsGiven, name_words}
use Rattle.tl_prove.specs.declared.options.EntryOptions.{EntryOptions}
use Rattle.tl_prove.specs.declared.options.EntryOptions.TheVariants.{Digest}

pub digest_given : (options : EntryOptions) (file : String Global) (name : Option (String Global)) (bytes digest entry : Bytes) (named : Option Bytes)
    → options ≡ Digest file name → digest ≡ sha256 bytes → named ≡ option_map string_bytes name → entry ≡ codes "sha256 " ++ encode_lower digest ++ name_words named → IsGiven options entry
digest_given options file name bytes digest entry named is digested same text =
    subst (λ (o : EntryOptions). IsGiven o entry) (sym is) (
      bytes,
      text ∙ ap (λ (d : Bytes). codes "sha256 " ++ encode_lower d ++ name_words named) digested
          ∙ ap (λ (n : Option Bytes). codes "sha256 " ++ encode_lower (sha256 bytes) ++ name_words n) same,
    )
