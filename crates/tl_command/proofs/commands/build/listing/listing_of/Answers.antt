use Rattle.std.proofs.Common.{◌≡◌, ◌<◌, ◌^◌, ◌∙◌, List, ℕ, length, ap, sym, subst, All}
use Rattle.std.specs.Prelude.{Contains}
use Rattle.tl_run.specs.Signing.{checkpoint_note}
use Rattle.tl_command.specs.Mirror.{listing_text, mirrored}
use Rattle.tl_command.proofs.Lengths.{has_length}
use Rattle.tl_command.proofs.NeededParts.{lies, lawful}
use Rattle.tl_command.proofs.Wanted.{has_all}
use Rattle.tl_command.proofs.commands.build.listing.listing_of.Goals as goal

pub lines_of-requires-clause-lawful : goal.lines_of-requires-clause-lawful
lines_of-requires-clause-lawful g c = λ k d less.
    lawful c.args.size _ (lies c.args.size _ c.requires.few (has_all c.as_slice.result.now (mirrored c.args.size) (c.as_slice.ensures.value ∙ c.in_ok-resources.ensures) k d less))

pub lines_of-requires-clause-measured : goal.lines_of-requires-clause-measured
lines_of-requires-clause-measured g c = λ k d less.
    has_length c.args.lengths.now c.args.size _ c.requires.few c.requires.measured (has_all c.as_slice.result.now (mirrored c.args.size) (c.as_slice.ensures.value ∙ c.in_ok-resources.ensures) k d less)

pub returns-clause-text : goal.returns-clause-text
returns-clause-text g c = λ entries number rooted are.
    let note = checkpoint_note (g.K.LogSigner.log_key c.args.key.now) entries in
    let same : c.as_slice.result.now ≡ mirrored c.args.size = c.as_slice.ensures.value ∙ c.in_ok-resources.ensures in
    let few : length entries < 2 ^ 32 = subst (λ (n : ℕ). n < 2 ^ 32) (sym number) c.requires.few in
    let served : All (Contains (mirrored (length entries))) c.as_slice.result.now = has_all c.as_slice.result.now (mirrored (length entries)) (same ∙ ap mirrored (sym number)) in
    c.in_ok-text.ensures entries few are served
    ∙ ap (λ (n : List ℕ). listing_text n entries c.as_slice.result.now) (c.as_str.ensures.value ∙ c.in_ok-note.ensures.note entries number rooted)
    ∙ ap (listing_text note entries) same
