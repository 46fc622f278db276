-- The text of a key that signs requests: it is read in one way.
use Rattle.std.proofs.Common.{◌≡◌, ◌⊎◌, ◌≤◌, List, ℕ, [], ◌∷◌, ◌++◌, append-nil, arith, inl, inr, subst, sym, ◌∙◌}
use Rattle.std.proofs.lemmas.List.Elements.{All-head, All-tail}
use Rattle.tl_hash.specs.Bytes.{Bytes}
use Rattle.tl_text.specs.Text.{HasNoControl, IsOneLine, line}
use Rattle.tl_text.proofs.Lines.{one_line}
use Rattle.tl_cli.specs.InBucket.{IsKeyText}
use Rattle.tl_cli.specs.Inner.Keys.{IsCut}

-- a secret, whose newline may be left out
abbrev IsRest : Bytes → Bytes → Type 0
IsRest rest secret = (rest ≡ secret) ⊎ (rest ≡ line secret)

-- the first line of a key's text is the key's name, and its secret follows
by_lines : (text id secret front rest : Bytes) → IsOneLine id → HasNoControl front → text ≡ line front ++ rest
    → (text ≡ line id ++ secret) ⊎ (text ≡ line id ++ line secret) → (front ≡ id) × IsRest rest secret
by_lines text id secret front rest named plain e (inl f) =
    let cut = one_line front id rest secret plain named.plain (sym e ∙ f) in
    (cut.0, inl cut.1)
by_lines text id secret front rest named plain e (inr f) =
    let cut = one_line front id rest (line secret) plain named.plain (sym e ∙ f) in
    (cut.0, inr cut.1)

-- a text without control characters has no newline
no_newline : (front after : List ℕ) → HasNoControl (line front ++ after) → ⊥
no_newline [] after plain = absurd (omega (arith, All-head (λ byte. 32 ≤ byte) 10 after plain))
no_newline (b ∷ bs) after plain = no_newline bs after (All-tail (λ byte. 32 ≤ byte) b (line bs ++ after) plain)

-- it is the secret, and nothing follows
second : (rest secret own after : Bytes) → IsOneLine own → IsCut rest secret after → IsRest rest own → (secret ≡ own) × (after ≡ [])
second rest secret own after hidden (inl cut) (inl r) = absurd (no_newline secret after (subst HasNoControl (sym r ∙ cut.1) hidden.plain))
second rest secret own after hidden (inl cut) (inr r) = one_line secret own after [] cut.0 hidden.plain (sym cut.1 ∙ r ∙ sym (append-nil (line own)))
second rest secret own after hidden (inr cut) (inl r) = (cut.1 ∙ r, cut.2)
second rest secret own after hidden (inr cut) (inr r) = absurd (cut.0 own [] hidden.plain (r ∙ sym (append-nil (line own))))

-- what was cut off a key's text is a key
pub cut_of_key : (text front rest secret after : Bytes) → HasNoControl front → text ≡ line front ++ rest → IsCut rest secret after
    → (id own : Bytes) → IsKeyText text id own → IsOneLine front × IsOneLine secret × (after ≡ [])
cut_of_key text front rest secret after plain e cut id own key =
    let lines = by_lines text id own front rest key.name plain e key.lines in
    let same = second rest secret own after key.hidden cut lines.1 in
    (subst IsOneLine (sym lines.0) key.name, subst IsOneLine (sym same.0) key.hidden, same.1)
