-- A body that is returned has at most as many bytes as its request allows.
use Rattle.std.proofs.Common.{◌≡◌, ℕ, ◌≤◌, List, [], length, take, refl, sym, ap, arith, inl, inr, Ok, Err, append-nil}
use Rattle.std.specs.Prelude.{◌⊎◌}
use Rattle.std.proofs.lemmas.List.{length-take-le}
use Rattle.tl_device.specs.Device.{Passage}
use Rattle.tl_http.specs.Get.{Gets, Receives}
use Rattle.tl_http.specs.Response.{Outcome, Unless, UnlessSome, LacksMemory, BodyDecides, Begins, Begun, ChunkDecides, DataDecides, Responds, SizeDecides}
use Rattle.tl_http.specs.Chunks.{chunks_content}
use Rattle.tl_http.specs.declared.framing.Framing.{Framing}
use Rattle.tl_http.specs.declared.framing.Framing.TheVariants.{Sized, UntilEnd, Chunked}
use Rattle.tl_http.specs.declared.fault.HttpFault.{HttpFault}
use Rattle.tl_http.specs.declared.fault.HttpFault.TheVariants as get

-- a request returned this body
abbrev gave : List ℕ → Outcome
gave body = Ok body

-- a case of the table with a fault isn't the one with a body
past : (P R : Type 0) (body : List ℕ) (why : HttpFault) → Unless P (gave body ≡ Err why) R → R
past P R body why (inl fault) = let e = fault.1 in absurd (cc)
past P R body why (inr so) = so.1

past_some : (A : Type 0) (such rest : A → Type 0) (body : List ℕ) (why : HttpFault) → UnlessSome such (gave body ≡ Err why) rest → (a : A) × rest a
past_some A such rest body why (inl fault) = let e = fault.1 in absurd (cc)
past_some A such rest body why (inr so) = (so.0, so.2)

sized : (limit n : ℕ) (rest body : List ℕ) → n ≤ limit → LacksMemory n rest (Ok body) ⊎ Unless (n ≤ length rest) (gave body ≡ Err get.Short) (gave body ≡ Ok (take n rest)) → length body ≤ limit
sized limit n rest body within (inl lack) = let e = lack.0 in absurd (cc)
sized limit n rest body within (inr (inl short)) = let e = short.1 in absurd (cc)
sized limit n rest body within (inr (inr whole)) =
    let e = whole.1 in
    let same : body ≡ take n rest = cc in
    omega (arith, ap (λ (l : List ℕ). length l) same, length-take-le n rest whole.0)

-- what comes after chunks whose data are within the limit gives those data or a fault
lacking : (n : ℕ) (rest body : List ℕ) → DataDecides n rest (Ok body) → ⊥
lacking n rest body (inl lack) = let e = lack.0 in absurd (cc)
lacking n rest body (inr (inl short)) = let e = short.0 in absurd (cc)
lacking n rest body (inr (inr bad)) = let e = bad.0 in absurd (cc)

ended : (limit : ℕ) (content : List ℕ) (n : ℕ) (rest body : List ℕ) → SizeDecides limit content n rest (Ok body) → body ≡ content
ended limit content n rest body (inl last) = let e = last.0 in cc
ended limit content n rest body (inr (inl large)) = let e = large.0 in absurd (cc)
ended limit content n rest body (inr (inr more)) = absurd (lacking n rest body more.2)

joined : (limit : ℕ) (content rest body : List ℕ) → ChunkDecides limit content rest (Ok body) → body ≡ content
joined limit content rest body (inl (inl short)) = let e = short.0 in absurd (cc)
joined limit content rest body (inl (inr bad)) = let e = bad.0 in absurd (cc)
joined limit content rest body (inr (line, after, n, cut, lined, decided)) = ended limit content n after body decided

body_fits : (limit : ℕ) (framing : Framing) (rest body : List ℕ) → BodyDecides limit framing rest (Ok body) → length body ≤ limit
body_fits limit (Sized n) rest body (inl large) = let e = large.1 in absurd (cc)
body_fits limit (Sized n) rest body (inr within) = sized limit n rest body within.0 within.1
body_fits limit UntilEnd rest body (inl lack) = let e = lack.0 in absurd (cc)
body_fits limit UntilEnd rest body (inr (inl large)) = let e = large.1 in absurd (cc)
body_fits limit UntilEnd rest body (inr (inr whole)) =
    let e = whole.1 in
    let same : body ≡ rest = cc in
    omega (arith, ap (λ (l : List ℕ). length l) same, whole.0)
body_fits limit Chunked rest body (chunks, after, has, decided) =
    omega (arith, ap (λ (l : List ℕ). length l) (joined limit (chunks_content chunks) after body decided), has.fits)

responds_fits : (limit : ℕ) (input body : List ℕ) → Responds limit input (Ok body) → length body ≤ limit
responds_fits limit input body decided =
    let b = past_some Begun (Begins input) _ body get.NoHead decided in
    let n = past_some Framing _ _ body get.BadLength (past _ _ body _ (past _ _ body _ (past _ _ body get.Version b.1))) in
    body_fits limit n.0 b.0.rest body n.1

receives_fits : (limit : ℕ) (i : Passage) (body : List ℕ) → Receives (Responds limit) i (Ok body) → length body ≤ limit
receives_fits limit i body (inl read) = let e = read.0 in absurd (cc)
receives_fits limit i body (inr came) =
    responds_fits limit came.bytes body (came.so came.bytes (record { more = []; joined = sym (append-nil came.bytes); none = λ _. refl }))

pub gets_fits : (host target : List ℕ) (limit : ℕ) (i o : Passage) (body : List ℕ) → Gets host target limit i o (Ok body) → length body ≤ limit
gets_fits host target limit i o body (inl bad) = let e = bad.1.0 in absurd (cc)
gets_fits host target limit i o body (inr asked) =
    elim (asked.1) as (λ _. length body ≤ limit) [
      | inl write ↦ (let e = write.0 in absurd (cc))
      | inr sent ↦ receives_fits limit i body sent.1
    ]
