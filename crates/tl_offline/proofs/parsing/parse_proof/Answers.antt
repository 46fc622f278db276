use Rattle.std.proofs.Common.{List, ℕ, take, refl, inl, inr}
use Rattle.tl_offline.proofs.ParseLemmas.{hashes_fault, made, parses_refused, proof_of_parts, spelled_some}
use Rattle.tl_offline.proofs.parsing.parse_proof.Goals as goal

pub returns-in-Err : goal.returns-in-Err
returns-in-Err g c = hashes_fault g.row.A.Denot c.args.text.now c.in_ok-front.front c.in-Err.fault c.in_ok-front.ensures c.in-Err.ensures

pub returns-in_err-decode-in-Some : goal.returns-in_err-decode-in-Some
returns-in_err-decode-in-Some g c =
    let front = c.in_ok-front.front in
    let hashes = c.in-Ok.hashes in
    let cut = c.in_ok-front.ensures in
    let list : List (List ℕ) = take hashes.count hashes.found in
    let is = proof_of_parts c.args.text.now front hashes cut.bytes list cut c.in-Ok.ensures cut.spelled refl in
    parses_refused g.row.A.Denot c.args.text.now (made cut.bytes front.index list hashes.note.now) c.from_residual-in_err-decode-in-Some.result c.from_residual-in_err-decode-in-Some.ensures.1 is
    (inr (spelled_some front.extra c.in-Some.words cut.bytes c.in-Some.is cut.spelled))

pub returns-in_err-list_of : goal.returns-in_err-list_of
returns-in_err-list_of g c =
    let front = c.in_ok-front.front in
    let hashes = c.in-Ok.hashes in
    let cut = c.in_ok-front.ensures in
    let list : List (List ℕ) = take hashes.count hashes.found in
    let is = proof_of_parts c.args.text.now front hashes cut.bytes list cut c.in-Ok.ensures cut.spelled refl in
    parses_refused g.row.A.Denot c.args.text.now (made cut.bytes front.index list hashes.note.now) c.from_residual-in_err-list_of.result c.from_residual-in_err-list_of.ensures.1 is
    (inl c.in_err-list_of.ensures.memory)
