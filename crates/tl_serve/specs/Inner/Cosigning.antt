-- The key that a witness cosigns with.
use Rattle.tl_note.specs.Key.{SigningKey}
use Rattle.tl_key.specs.DemoKey.{demo_signing_key}
use Rattle.tl_key.specs.NoteKey.{signer_key}
use Rattle.tl_serve.specs.declared.cosigner.Own.{Own}
use Rattle.tl_serve.specs.declared.cosigner.Own.TheVariants.{Demonstration, Private}

-- what it signs
abbrev pub own_signing_key : Own → SigningKey
own_signing_key (Demonstration key) = demo_signing_key key
own_signing_key (Private key) = signer_key key
