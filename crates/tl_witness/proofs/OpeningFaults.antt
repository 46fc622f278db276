-- Why a book is not opened: a chain breaks, or memory runs out.
use Rattle.std.proofs.Common.{◌<◌, ◌⊎◌, List, All, inl, inr, length, map, arith}
use Rattle.std.proofs.lemmas.List.{length-map}
use Rattle.tl_hash.specs.Bytes.{Digest}
use Rattle.tl_note.specs.Key.{IsKeyName}
use Rattle.tl_witness.specs.declared.opening.BookFault.{BookFault}
use Rattle.tl_witness.specs.declared.opening.BookFault.TheVariants.{TwiceNamed, NoTrust, BadName, BadChain, OutOfMemory}
use Rattle.tl_witness.specs.Open.{SavedChain, Trusted, AreNamedOnce, IsTrusted, RefusesBook, chain_origins, cosigner_names}
use Rattle.tl_witness.specs.Opening.{ChecksChains}

pub chain_fault : (H : Digest) (trusts : List Trusted) (chains : List SavedChain) (fault : BookFault) → AreNamedOnce trusts chains
    → All (IsTrusted trusts) (chain_origins chains) → All IsKeyName (cosigner_names trusts) → ChecksChains H chains fault → RefusesBook H trusts chains fault
chain_fault H trusts chains TwiceNamed once listed named is = absurd is
chain_fault H trusts chains (NoTrust place) once listed named is = absurd is
chain_fault H trusts chains (BadName place) once listed named is = absurd is
chain_fault H trusts chains (BadChain place link) once listed named is = (once, listed, named, is)
chain_fault H trusts chains OutOfMemory once listed named is = inr is

-- memory can run out only if there is a trust or a chain
pub memory_refused : {E C : Type 0} (trusted : E → Trusted) (saved : C → SavedChain) (trusts : List E) (chains : List C)
    → (0 < length trusts) ⊎ (0 < length chains) → (0 < length (map trusted trusts)) ⊎ (0 < length (map saved chains))
memory_refused trusted saved trusts chains (inl some) = inl (omega (arith, some, length-map trusts trusted))
memory_refused trusted saved trusts chains (inr some) = inr (omega (arith, some, length-map chains saved))
