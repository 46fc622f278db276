-- Keys, by what they accept and give (C2SP signed-note, "Signatures").
use Rattle.std.specs.Prelude.{◌≡◌, ℕ, ◌<◌, ◌≤◌, ◌≢◌, ◌⊎◌, Bool, false, [], length, All, IsTrue, IsUtf8, chars}
use Rattle.std.specs.Char.{is_whitespace}
use Rattle.tl_hash.specs.Bytes.{Bytes}

-- a verifier's key: its name, its identifier, and which signatures of a message it accepts
pub record Key : Type 0 where
  pub name : Bytes
  pub id : ℕ
  pub accepts : Bytes → Bytes → Bool

-- a signer's key: its name, its identifier, which signatures of a message it may give, and which messages it may
-- refuse
pub record SigningKey : Type 0 where
  pub name : Bytes
  pub id : ℕ
  pub may_give : Bytes → Bytes → Bool
  pub may_refuse : Bytes → Bool

-- the key may give no signature of this message: it may refuse the message, or give no bytes
abbrev pub MayGiveNone : SigningKey → Bytes → Type 0
MayGiveNone key message = IsTrue (key.may_refuse message) ⊎ IsTrue (key.may_give message [])

-- the key with this name instead of its own
abbrev pub named_key : Bytes → SigningKey → SigningKey
named_key name key = record key { name = name }

-- a character of a key's name: no white space, no plus sign, no control character
pub record IsNameChar (c : ℕ) : Type 0 where
  pub visible : is_whitespace c ≡ false
  pub no_control : 32 ≤ c
  pub no_plus : c ≢ 43

-- a key's name: not empty, and made of such characters
pub record IsKeyName (name : Bytes) : Type 0 where
  pub some : 0 < length name
  pub text : IsUtf8 name
  pub each : All IsNameChar (chars name)
