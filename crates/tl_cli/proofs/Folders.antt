-- A folder since it was opened.
use Rattle.std.proofs.Common.{◌≡◌, List, [], ap, subst}
use Rattle.std.specs.Prelude.{Result}
use Rattle.tl_archive.specs.Shelves.{Held}
use Rattle.tl_ledger.specs.Opening.{Found}
use Rattle.tl_folder.specs.Events.{Event}
use Rattle.tl_folder.specs.Folders.{Calls, Reached, after_calls, after_each, at_first, kept_by, traced_by}
use Rattle.tl_run.specs.declared.fault.RunFault.{RunFault}
use Rattle.tl_append.specs.Running.{Visit, visit}
use Rattle.tl_serve.specs.declared.options.ServeOptions.{ServeOptions}
use Rattle.tl_cli.specs.Lasting.{ServesBy, since_opened}

-- at its opening no call was made yet
opened_visit : (held : Held) (reached : Reached) (a b : Calls) → a.events ≡ [] → visit (kept_by held reached) (traced_by held reached) a b ≡ since_opened held reached b
opened_visit held reached a b none =
    ap (λ (events : List Event). record {
      before = after_calls reached 0 events (at_first held);
      after = kept_by held reached b;
      saw = after_each reached 0 events (at_first held);
      sees = traced_by held reached b;
    })
    none

pub serves_since : (held : Held) (reached : Reached) (options : ServeOptions) (found : Found) (a b : Calls) (r : Result (Unit {0}) RunFault) → a.events ≡ []
    → ServesBy options found (visit (kept_by held reached) (traced_by held reached) a b) r → ServesBy options found (since_opened held reached b) r
serves_since held reached options found a b r none serves =
    subst (λ (v : Visit). ServesBy options found v r) (opened_visit held reached a b none) serves
