use Rattle.std.proofs.Common.{◌≡◌, List, ℕ, arith, length, ap, ◌∙◌, subst, string_bytes, vec_items}
use Rattle.std.proofs.lemmas.List.{length-map}
use Rattle.tl_logs.specs.LogsFile.{log}
use Rattle.tl_logs.specs.ReadLogs.{logs_shown}
use Rattle.tl_logs.specs.Inner.ByOrigin.{PutsOrigin, index_of}
use Rattle.tl_logs.specs.Inner.Lines.{given_by}
use Rattle.tl_logs.specs.Inner.Placing.{PutsKey}
use Rattle.tl_logs.proofs.IndexLaws.{known_there, known_within, unknown_there, indexed_new}
use Rattle.tl_logs.proofs.Placed.{indexed_after, placed_at, placed_new}
use Rattle.tl_logs.proofs.placing.put_key.Goals as goal

pub index_mut-requires : goal.index_mut-requires
index_mut-requires g c =
    let found = c.in-Some.ensures ∙ ap (index_of c.args.index.now) c.as_str.ensures.value in
    let room = known_within (λ l. log (string_bytes l.origin) (vec_items l.keys)) c.args.logs.now.items (index_of c.args.index.now) (string_bytes c.args.line.origin) c.requires c.in-Some.place found in
    omega (arith, room, c.args.logs.now.ok.0)

pub returns-in-Some-clause-placed : goal.returns-in-Some-clause-placed
returns-in-Some-clause-placed g c =
    let found = c.in-Some.ensures ∙ ap (index_of c.args.index.now) c.as_str.ensures.value in
    let there = known_there (λ l. log (string_bytes l.origin) (vec_items l.keys)) c.args.logs.now.items (index_of c.args.index.now) (string_bytes c.args.line.origin) c.requires c.in-Some.place found in
    let room = known_within (λ l. log (string_bytes l.origin) (vec_items l.keys)) c.args.logs.now.items (index_of c.args.index.now) (string_bytes c.args.line.origin) c.requires c.in-Some.place found in
    placed_at (λ l. log (string_bytes l.origin) (vec_items l.keys)) c.args.logs.now.items c.in-Some.place (given_by c.args.line) c.index_mut.result.now c.add_key.new.known c.add_key.result room there
    c.index_mut.ensures.value c.add_key.ensures

pub returns-in-Some-clause-indexed : goal.returns-in-Some-clause-indexed
returns-in-Some-clause-indexed g c =
    let found = c.in-Some.ensures ∙ ap (index_of c.args.index.now) c.as_str.ensures.value in
    let there = known_there (λ l. log (string_bytes l.origin) (vec_items l.keys)) c.args.logs.now.items (index_of c.args.index.now) (string_bytes c.args.line.origin) c.requires c.in-Some.place found in
    let room = known_within (λ l. log (string_bytes l.origin) (vec_items l.keys)) c.args.logs.now.items (index_of c.args.index.now) (string_bytes c.args.line.origin) c.requires c.in-Some.place found in
    indexed_after (index_of c.args.index.now) (given_by c.args.line) (logs_shown c.args.logs.now.items) _ c.in-Some.place c.add_key.result c.requires found
    (placed_at (λ l. log (string_bytes l.origin) (vec_items l.keys)) c.args.logs.now.items c.in-Some.place (given_by c.args.line) c.index_mut.result.now c.add_key.new.known c.add_key.result room there
    c.index_mut.ensures.value c.add_key.ensures)

pub returns-in_ok-push-in-None-clause-placed : goal.returns-in_ok-push-in-None-clause-placed
returns-in_ok-push-in-None-clause-placed g c =
    let unknown = c.in-None.ensures ∙ ap (index_of c.args.index.now) c.as_str.ensures.value in
    let none = unknown_there (λ l. log (string_bytes l.origin) (vec_items l.keys)) c.args.logs.now.items (index_of c.args.index.now) (string_bytes c.args.line.origin) c.requires unknown in
    rw c.in_ok-push-in-None.ensures.items
    (placed_new (λ l. log (string_bytes l.origin) (vec_items l.keys)) c.args.logs.now.items (given_by c.args.line) c.in_ok-known-in-None.known none c.in_ok-known-in-None.ensures)

pub returns-in_ok-push-in-None-clause-indexed : goal.returns-in_ok-push-in-None-clause-indexed
returns-in_ok-push-in-None-clause-indexed g c =
    let unknown = c.in-None.ensures ∙ ap (index_of c.args.index.now) c.as_str.ensures.value in
    let none = unknown_there (λ l. log (string_bytes l.origin) (vec_items l.keys)) c.args.logs.now.items (index_of c.args.index.now) (string_bytes c.args.line.origin) c.requires unknown in
    let put : PutsKey (given_by c.args.line) (logs_shown c.args.logs.now.items) (logs_shown c.push.new.self.items) = rw c.in_ok-push-in-None.ensures.items
    (placed_new (λ l. log (string_bytes l.origin) (vec_items l.keys)) c.args.logs.now.items (given_by c.args.line) c.in_ok-known-in-None.known none c.in_ok-known-in-None.ensures) in
    let last : c.len.result ≡ length (logs_shown c.args.logs.now.items) = omega (arith, c.len.ensures, c.args.logs.now.ok.0, length-map c.args.logs.now.items (λ l. log (string_bytes l.origin) (vec_items l.keys))) in
    let puts = subst (λ (o : List ℕ). PutsOrigin o c.len.result (index_of c.args.index.now) (index_of c.add.new.self)) c.as_str-in-None.ensures.value c.in_ok-add-in-None.ensures.added in
    indexed_new (index_of c.args.index.now) (index_of c.add.new.self) (given_by c.args.line) (logs_shown c.args.logs.now.items) _ c.len.result c.requires unknown last puts put
