-- The rings of the kit, as entries of a log: one end of a ring, the entries that come from it, and the log of its
-- lists.
use Rattle.std.specs.Prelude.{◌≡◌, ℕ, List, ◌++◌, map, vec_items, length, replicate}
use Rattle.std.specs.List.{All}
use Rattle.std.specs.declared.vec.Vec.{Vec}
use Rattle.rtrb.specs.declared.end.End.{End}
use Rattle.rtrb.specs.declared.consumer.Consumer.{Consumer}
use Rattle.rtrb.specs.Ring.{SameConsumer, received, known_items}
use Rattle.tl_sequencer.specs.Log.{Ring, Lane, Log, IsShort}

module _ {E A P : Type 0} where
  abbrev pub ring_of : End (Vec ℕ E) A P → Ring A
  ring_of e = ((e.words, e.slots), e.names, e.heap)

  -- `count` items are popped and appended to the entries
  pub record Pours (count lane : ℕ) (c c' : Consumer (Vec ℕ E) A P) (entries entries' : List (Vec ℕ E)) (who who' : List ℕ) : Type 0 where
    pub popped : List (Vec ℕ E)
    pub counted : length popped ≡ count
    pub ring : SameConsumer c c'
    pub gave : received c' ≡ received c ++ popped
    pub known : known_items c ≡ popped ++ known_items c'
    pub put : entries' ≡ entries ++ popped
    pub by : who' ≡ who ++ replicate count lane
    pub short : All (λ v. IsShort v.items) popped

module _ {E A : Type 0} where
  -- the log of these lists
  abbrev pub log_of : List (Vec ℕ E) → List (Vec ℕ E) → List ℕ → ℕ → List (Lane A) → Log A
  log_of base taken who limit lanes =
      record { base = map vec_items base; taken = map vec_items taken; who = who; limit = limit; lanes = lanes }
