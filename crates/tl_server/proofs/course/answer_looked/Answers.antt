use Rattle.std.proofs.Common.{◌%◌, List, ℕ, inl, refl, subst}
use Rattle.tl_server.specs.Adding.{Reply, index_answer}
use Rattle.tl_server.specs.Answer.{bare}
use Rattle.tl_server.specs.Inner.Places.{HasEntry}
use Rattle.tl_server.specs.declared.look.Looked.TheVariants as looked
use Rattle.tl_server.proofs.OpenLemmas.{sent_takes}
use Rattle.tl_server.proofs.PlaceLemmas.{looked_as}
use Rattle.tl_server.proofs.course.answer_looked.Goals as goal

pub returns-in-Failed : goal.returns-in-Failed
returns-in-Failed g c = record {
  course = Reply (bare 500);
  decided = looked_as c.args.index c.args.entry.now c.args.looked.now looked.Failed (Reply (bare 500)) c.in-Failed.is refl;
  takes = sent_takes (bare 500) _ c.refuse.result c.outcome_of.result c.refuse.ensures c.outcome_of.ensures;
}

pub returns-then-has_entry : goal.returns-then-has_entry
returns-then-has_entry g c =
    let index = c.args.index in
    let has : HasEntry c.in-Bytes.bytes.items c.in-Bytes.width (index % 256) c.args.entry.now =
    subst (λ (l : List ℕ). HasEntry l c.in-Bytes.width (index % 256) c.args.entry.now) c.as_slice.ensures.value c.if-has_entry.ensures in
    record {
      course = Reply (index_answer index);
      decided = looked_as index c.args.entry.now c.args.looked.now (looked.Bytes c.in-Bytes.bytes c.in-Bytes.width) (Reply (index_answer index)) c.in-Bytes.is (inl (has, refl));
      takes = c.answer_index.ensures;
    }
