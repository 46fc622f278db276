-- Hosts and ports of authorities.
use Rattle.std.proofs.Common.{◌≡◌, ℕ, ◌+◌, ◌%◌, ◌<◌, ◌≤◌, ◌^◌, List, [], ◌∷◌, ◌++◌, length, sym, ap, subst, ◌∙◌, arith, inl, inr, Option, Some, None}
use Rattle.std.specs.Prelude.{◌≢◌, true, false, MatchOption}
use Rattle.std.proofs.lemmas.Fmt.{decimal_by_steps, decimal_injective}
use Rattle.std.proofs.lemmas.List.Elements.{All-nil, All-cons, All-push, All-append, All-weaker, All-get_or}
use Rattle.std.proofs.lemmas.Str.Pattern.{IsSplitOnceResult, split_after}
use denote.Ref.{Bor}
use Rattle.tl_text.specs.Text.{number_text}
use Rattle.tl_source.specs.Url.{IsNameByte, IsName, IsAddressByte, IsAddress, IsPort, IsNamed, IsBracketed, IsAuthority}
use Rattle.tl_source.specs.Inner.Authorities.{Lacks, BeginsWith, HasNoPort, IsNotNamed, IsNotBracketed, IsNoAuthority}
use Rattle.tl_source.proofs.Cuts.{one_cut}

pub false_is_not_true : false ≡ true → ⊥
false_is_not_true e = cc

-- ---- ports

pub port_begins : (text : List ℕ) (port : ℕ) → IsPort text port → BeginsWith 58 text
port_begins text port (inl none) = inl none.0
port_begins text port (inr given) = inr (number_text port, given.0)

-- a text that isn't empty and doesn't begin with a colon
pub no_port : (text : List ℕ) → 0 < length text → ((rest : List ℕ) → text ≢ 58 ∷ rest) → HasNoPort text
no_port text some other port (inl none) = omega (arith, ap (λ (t : List ℕ). length t) none.0)
no_port text some other port (inr given) = other (number_text port) given.0

-- a number that is too large
pub large_port : (text digits : List ℕ) (n : ℕ) → text ≡ 58 ∷ digits → digits ≡ number_text n → n < 2 ^ 63 → 2 ^ 16 ≤ n → HasNoPort text
large_port text digits n begun is small large port (inl none) = let empty = none.0 in absurd (cc)
large_port text digits n begun is small large port (inr given) =
    let same = given.0 in
    let equal : number_text port ≡ number_text n = cc in
    omega (arith, decimal_injective port n (omega (arith, given.1)) (omega arith) equal, given.1)

number_lacks : (n : ℕ) → n < 2 ^ 64 → Lacks 47 (number_text n)
number_lacks n small =
    decimal_by_steps (λ _ ds. Lacks 47 ds)
    (λ n l. All-cons (λ b. b ≢ 47) (48 + n) [] (λ e. omega (arith, e)) (All-nil (λ b. b ≢ 47)))
    (λ n ds l rest. All-push (λ b. b ≢ 47) ds (48 + n % 10) rest (λ e. omega (arith, e)))
    n small

port_lacks : (text : List ℕ) (port : ℕ) → IsPort text port → Lacks 47 text
port_lacks text port (inl none) = subst (Lacks 47) (sym none.0) (All-nil (λ b. b ≢ 47))
port_lacks text port (inr given) =
    subst (Lacks 47) (sym given.0) (All-cons (λ b. b ≢ 47) 58 (number_text port) (λ e. omega (arith, e)) (number_lacks port (omega (arith, given.1))))

-- ---- names

-- the host and the port of a named authority are what a cut at the first colon gives
pub named_cut : (text front back host : List ℕ) (port : ℕ) → text ≡ front ++ back → Lacks 58 front → BeginsWith 58 back → (n : IsNamed text host port) → (host ≡ front) × (n.rest ≡ back)
named_cut text front back host port cut lacks begins n =
    one_cut 58 host n.rest front back (All-weaker IsNameByte (λ b. b ≢ 58) (λ b is. is.1) host n.host_is.plain) lacks (port_begins n.rest port n.port_is) begins (sym n.joined ∙ cut)

pub not_named_port : (text front back : List ℕ) → text ≡ front ++ back → Lacks 58 front → BeginsWith 58 back → HasNoPort back → IsNotNamed text
not_named_port text front back cut lacks begins none host port n =
    let same = named_cut text front back host port cut lacks begins n in none port (subst (λ (t : List ℕ). IsPort t port) same.1 n.port_is)

pub not_named_host : (text front back : List ℕ) → text ≡ front ++ back → Lacks 58 front → BeginsWith 58 back → ¬ (IsName front) → IsNotNamed text
not_named_host text front back cut lacks begins none host port n =
    let same = named_cut text front back host port cut lacks begins n in none (subst IsName same.0 n.host_is)

-- ---- addresses in brackets

address_byte : (b : ℕ) → IsAddressByte b → (b ≢ 47) × (b ≢ 93)
address_byte b (inl (inl (inl digit))) = ((λ e. omega (arith, e, digit)), (λ e. omega (arith, e, digit)))
address_byte b (inl (inl (inr digit))) = ((λ e. omega (arith, e, digit)), (λ e. omega (arith, e, digit)))
address_byte b (inl (inr digit)) = ((λ e. omega (arith, e, digit)), (λ e. omega (arith, e, digit)))
address_byte b (inr (inl colon)) = ((λ e. omega (arith, e, colon)), (λ e. omega (arith, e, colon)))
address_byte b (inr (inr dot)) = ((λ e. omega (arith, e, dot)), (λ e. omega (arith, e, dot)))

-- after the bracket, the host and the port are what a cut at the next bracket gives
pub bracketed_cut : (text : List ℕ) (r : Option (Bor (List ℕ) × Bor (List ℕ))) → IsSplitOnceResult 93 text r → (host : List ℕ) (port : ℕ) → (b : IsBracketed (91 ∷ text) host port) → MatchOption r ⊥ (λ x. (x.0.now ≡ host) × (x.1.now ≡ b.rest))
bracketed_cut text r split host port b =
    let whole = b.joined in
    let after : text ≡ host ++ 93 ∷ b.rest = cc in
    split_after 93 text host b.rest r split (omega arith) after
    (λ i l. All-get_or (λ x. x ≢ 93) host i 0 l (All-weaker IsAddressByte (λ x. x ≢ 93) (λ x is. (address_byte x is).1) host b.host_is.plain))

pub not_bracketed_port : (text : List ℕ) (front back : Bor (List ℕ)) → IsSplitOnceResult 93 text (Some (front, back)) → HasNoPort back.now → IsNotBracketed text
not_bracketed_port text front back split none host port b =
    none port (subst (λ (t : List ℕ). IsPort t port) (sym (bracketed_cut text (Some (front, back)) split host port b).1) b.port_is)

pub not_bracketed_host : (text : List ℕ) (front back : Bor (List ℕ)) → IsSplitOnceResult 93 text (Some (front, back)) → ¬ (IsAddress front.now) → IsNotBracketed text
not_bracketed_host text front back split none host port b =
    none (subst IsAddress (sym (bracketed_cut text (Some (front, back)) split host port b).0) b.host_is)

-- ---- authorities

-- what begins with a bracket is no name
named_begins : (text rest host : List ℕ) (port : ℕ) → text ≡ 91 ∷ rest → IsNamed text host port → ⊥
named_begins text rest [] port begun n = omega (arith, n.host_is.some)
named_begins text rest (b ∷ host) port begun n =
    let whole = n.joined in
    let first : b ≡ 91 = cc in
    (All-get_or IsNameByte (b ∷ host) 0 0 (omega arith) n.host_is.plain).2 first

no_authority_after : (text rest : List ℕ) → text ≡ 91 ∷ rest → IsNotBracketed rest → IsNoAuthority text
no_authority_after text rest begun none host port (inl n) = named_begins text rest host port begun n
no_authority_after text rest begun none host port (inr b) = none host port (subst (λ (t : List ℕ). IsBracketed t host port) begun b)

pub after_bracket : (text rest : List ℕ) (r : Option (Bor (List ℕ) × ℕ)) → text ≡ 91 ∷ rest → MatchOption r (IsNotBracketed rest) (λ x. IsBracketed (91 ∷ rest) x.0.now x.1) → MatchOption r (IsNoAuthority text) (λ x. IsAuthority text x.0.now x.1)
after_bracket text rest None begun none = no_authority_after text rest begun none
after_bracket text rest (Some x) begun is = inr (subst (λ (t : List ℕ). IsBracketed t x.0.now x.1) (sym begun) is)

no_authority_without : (text : List ℕ) → ((rest : List ℕ) → text ≢ 91 ∷ rest) → IsNotNamed text → IsNoAuthority text
no_authority_without text other none host port (inl n) = none host port n
no_authority_without text other none host port (inr b) = other (host ++ 93 ∷ b.rest) b.joined

pub without_bracket : (text : List ℕ) (r : Option (Bor (List ℕ) × ℕ)) → ((rest : List ℕ) → text ≢ 91 ∷ rest) → MatchOption r (IsNotNamed text) (λ x. IsNamed text x.0.now x.1) → MatchOption r (IsNoAuthority text) (λ x. IsAuthority text x.0.now x.1)
without_bracket text None other none = no_authority_without text other none
without_bracket text (Some x) other is = inl is

-- an authority has no slash
pub authority_lacks : (text host : List ℕ) (port : ℕ) → IsAuthority text host port → Lacks 47 text
authority_lacks text host port (inl n) =
    subst (Lacks 47) (sym n.joined) (All-append (λ b. b ≢ 47) host n.rest (All-weaker IsNameByte (λ b. b ≢ 47) (λ b is. is.0) host n.host_is.plain) (port_lacks n.rest port n.port_is))
authority_lacks text host port (inr b) =
    subst (Lacks 47) (sym b.joined)
    (All-cons (λ x. x ≢ 47) 91 (host ++ 93 ∷ b.rest) (λ e. omega (arith, e))
    (All-append (λ x. x ≢ 47) host (93 ∷ b.rest) (All-weaker IsAddressByte (λ x. x ≢ 47) (λ x is. (address_byte x is).0) host b.host_is.plain)
    (All-cons (λ x. x ≢ 47) 93 b.rest (λ e. omega (arith, e)) (port_lacks b.rest port b.port_is))))
