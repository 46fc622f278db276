use Rattle.std.proofs.Common.{List, ℕ, Some, ap, ◌∙◌, string_bytes}
use Rattle.std.specs.Prelude.{bytes_eq}
use Rattle.std.specs.BTreeMap.{get_by_text}
use Rattle.std.specs.Map.{update}
use Rattle.std.proofs.lemmas.Map.Text.{btree_map_updates_text}
use Rattle.tl_logs.proofs.by_origin.ByOrigin.add.Goals as goal

pub returns-clause-added : goal.returns-clause-added
returns-clause-added g c = λ other.
    btree_map_updates_text (string_bytes c.in_ok-from_str.field-0) c.args.self.now.places c.insert.new.self (Some c.args.place) c.in_ok-insert.ensures.updates other
    ∙ ap (λ (bytes : List ℕ). update bytes_eq (get_by_text c.args.self.now.places) bytes (Some c.args.place) other) c.in_ok-from_str.ensures.ok
