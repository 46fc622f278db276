use Rattle.std.proofs.Common.{◌≡◌, ℕ, List, map, string_bytes, vec_items, sym, subst}
use Rattle.tl_checkpoint.specs.Checkpoint.{IsHead, checkpoint_text}
use Rattle.tl_checkpoint.proofs.ParseLemmas.{has_lines, has_no_origin, head_of_lines, in_these, not_empty, parses_refused, some_text}
use Rattle.tl_checkpoint.proofs.parsing.parse.Goals as goal

pub returns-in_default : goal.returns-in_default
returns-in_default g c = c.in_default.ensures

pub returns-then-is_empty : goal.returns-then-is_empty
returns-then-is_empty g c =
    let parts = c.in-Some.parts in
    (parts.size.now, parts.root.now, has_no_origin c.args.text.now parts c.is_empty.result c.is_empty.ensures c.if-is_empty.true c.in-Some.ensures)

pub returns-in_default-parse_size : goal.returns-in_default-parse_size
returns-in_default-parse_size g c =
    let parts = c.in-Some.parts in (
      parts.origin.now,
      parts.size.now,
      parts.root.now,
      has_lines c.args.text.now parts c.in-Some.ensures,
      not_empty parts.origin.now (some_text parts.origin.now c.is_empty.result c.is_empty.ensures c.if-is_empty.false),
      c.in_default-parse_size.ensures,
    )

pub returns-in_default-parse_hash : goal.returns-in_default-parse_hash
returns-in_default-parse_hash g c =
    let parts = c.in-Some.parts in
    let size = c.in-Some-parse_size.ensures in (
      parts.origin.now,
      parts.size.now,
      parts.root.now,
      has_lines c.args.text.now parts c.in-Some.ensures,
      not_empty parts.origin.now (some_text parts.origin.now c.is_empty.result c.is_empty.ensures c.if-is_empty.false),
      λ none. none c.in-Some-parse_size.size size.0 size.1,
      c.in_default-parse_hash.ensures,
    )

pub read_extensions-requires : goal.read_extensions-requires
read_extensions-requires g c = c.in-Some.ensures.extensions

pub returns-in_err-extensions : goal.returns-in_err-extensions
returns-in_err-extensions g c =
    let some = some_text c.in-Some.parts.origin.now c.is_empty.result c.is_empty.ensures c.if-is_empty.false in
    parses_refused c.args.text.now c.in-Some.parts c.in-Some-parse_size.size c.in-Some-parse_hash.root c.from_residual.result c.from_residual.ensures.1 c.in-Some.ensures some c.in-Some-parse_size.ensures c.in-Some-parse_hash.ensures

pub returns-in_err-from_str : goal.returns-in_err-from_str
returns-in_err-from_str g c =
    let some = some_text c.in-Some.parts.origin.now c.is_empty.result c.is_empty.ensures c.if-is_empty.false in
    parses_refused c.args.text.now c.in-Some.parts c.in-Some-parse_size.size c.in-Some-parse_hash.root c.from_residual-in_err-from_str.result c.from_residual-in_err-from_str.ensures.1 c.in-Some.ensures some c.in-Some-parse_size.ensures c.in-Some-parse_hash.ensures

pub returns : goal.returns
returns g c =
    let parts = c.in-Some.parts in
    let origin : string_bytes c.in_ok-from_str.field-0 ≡ parts.origin.now = c.in_ok-from_str.ensures.ok in
    let extensions : List (List ℕ) = map string_bytes (vec_items c.in_ok-extensions.extensions) in
    let some = some_text parts.origin.now c.is_empty.result c.is_empty.ensures c.if-is_empty.false in
    let lines = in_these c.args.text.now parts extensions c.in-Some.ensures c.in_ok-extensions.ensures in
    let head = head_of_lines c.args.text.now parts.origin.now parts.size.now parts.root.now c.in-Some-parse_hash.root extensions c.in-Some-parse_size.size lines some c.in-Some-parse_size.ensures.0 c.in-Some-parse_size.ensures.1 c.in-Some-parse_hash.ensures.0 c.in-Some-parse_hash.ensures.1 in
    subst (λ (o : List ℕ). IsHead (record { origin = o; size = c.in-Some-parse_size.size; root = c.in-Some-parse_hash.root; extensions = extensions }) × (c.args.text.now ≡ checkpoint_text (record { origin = o; size = c.in-Some-parse_size.size; root = c.in-Some-parse_hash.root; extensions = extensions }))) (sym origin) head
