-- Submitters and ends of a log, whatever else of it has changed.
use Rattle.std.proofs.Common.{◌≡◌, All, IfSome, map, subst, sym, ◌∙◌, ◌<◌, ap, length}
use Rattle.std.proofs.lemmas.List.{get_or-map, length-map}
use Rattle.std.specs.Prelude.{List, Option, Some, slice_get, slice_index_or}
use Rattle.tl_sequencer.specs.Log.{End, IsEndOf, IsSenderOf, Log, Sender, rings_of}

-- an end with the ring and the lane of a log's submitter is of this log
pub end_of : {A : Type 0} (s : Sender A) (log : Log A) (ended : Option (End A)) (e : End A) → IsSenderOf s log
    → IfSome ended (λ e. (e.ring ≡ s.ring) × (e.lane ≡ s.lane)) → ended ≡ Some e → IsEndOf e log
end_of s log ended e own kept is =
    let same = subst (λ d. IfSome d (λ e. (e.ring ≡ s.ring) × (e.lane ≡ s.lane))) is kept in
    ap (slice_get (rings_of log)) same.1 ∙ own ∙ ap (λ r. Some r) (sym same.0)

-- an end of a log is of the log that has its rings
pub end_stays : {A : Type 0} (e : End A) (before after : Log A) → rings_of after ≡ rings_of before → IsEndOf e before → IsEndOf e after
end_stays e before after same own = ap (λ rings. slice_get rings e.lane) same ∙ own

-- what was made of a log's submitters is of the log that has its rings
pub senders_of : {A X : Type 0} (f : X → Sender A) (xs : List X) (ss : List (Sender A)) (before after : Log A) → map f xs ≡ ss
    → All (λ s. IsSenderOf s before) ss → rings_of after ≡ rings_of before → All (λ x. IsSenderOf (f x) after) xs
senders_of f xs ss before after same all rings = λ k d less.
    let at = get_or-map f xs k d (f d) less in
    let here = all k (f d) (subst (λ n. k < n) (sym (length-map xs f) ∙ ap length same) less) in
    let own = subst (λ s. IsSenderOf s before) (ap (λ t. slice_index_or t k (f d)) (sym same) ∙ at) here in
    ap (λ t. slice_get t (f (slice_index_or xs k d)).lane) rings ∙ own

-- submitters of a log are of the log that has its rings
pub senders_stay : {A X : Type 0} (f : X → Sender A) (xs : List X) (before after : Log A) → All (λ x. IsSenderOf (f x) before) xs
    → rings_of after ≡ rings_of before → All (λ x. IsSenderOf (f x) after) xs
senders_stay f xs before after all rings = λ k d less. ap (λ t. slice_get t (f (slice_index_or xs k d)).lane) rings ∙ all k d less
