-- Addresses over HTTP.
use Rattle.std.proofs.Common.{◌≡◌, ℕ, List, ◌++◌, sym, subst, ◌∙◌}
use Rattle.std.specs.Prelude.{codes}
use Rattle.tl_source.specs.Url.{IsAuthority, IsNoUrl}
use Rattle.tl_source.specs.Inner.Authorities.{Lacks, BeginsWith, IsNoAuthority}
use Rattle.tl_source.proofs.Cuts.{one_cut}
use Rattle.tl_source.proofs.Hosts.{authority_lacks}

same_rest : (a b : List ℕ) → codes "http://" ++ a ≡ codes "http://" ++ b → a ≡ b
same_rest a b e = cc

-- a text whose part before the first slash after `http://` is no authority
pub no_url : (text rest front back : List ℕ) → text ≡ codes "http://" ++ rest → rest ≡ front ++ back → Lacks 47 front → BeginsWith 47 back → IsNoAuthority front → IsNoUrl text
no_url text rest front back begun cut lacks begins none authority host port prefix u =
    let joined : authority ++ prefix ≡ front ++ back = same_rest _ _ (sym u.joined ∙ begun) ∙ cut in
    let same = one_cut 47 authority prefix front back (authority_lacks authority host port u.authority_is) lacks u.prefix_is begins joined in
    none host port (subst (λ (t : List ℕ). IsAuthority t host port) same.0 u.authority_is)
