use Rattle.std.proofs.Common.{ap, inl, inr, string_bytes}
use Rattle.tl_fetch.specs.declared.fault.FetchFault.TheVariants as fetch
use Rattle.tl_fetch.proofs.Passages.{part_of, still, whole_of}
use Rattle.tl_fetch.proofs.feed.feeding.keep_and_feed.Goals as goal

pub returns-in-Err-clause-refused : goal.returns-in-Err-clause-refused
returns-in-Err-clause-refused g c =
    record { grown = c.requires.grown; why = inl (c.in-Err.ensures.refused, still _ _); fair = c.in-Err.ensures.fair }

pub returns-in-Err-cosigned-clause-refused : goal.returns-in-Err-cosigned-clause-refused
returns-in-Err-cosigned-clause-refused g c = record {
  grown = c.requires.grown;
  why = inr (c.in_default.ensures.kept, inl (c.in-Err-cosigned.ensures.unfed, still _ _));
  fair = c.in-Err-cosigned.ensures.fair;
}

pub returns-in-Ok-print_text-clause-printed : goal.returns-in-Ok-print_text-clause-printed
returns-in-Ok-print_text-clause-printed g c =
    whole_of _ (string_bytes c.in-Ok.text) c.as_bytes.result.now _ c.in-Ok.ensures.fed c.as_bytes.ensures.value c.in-Ok-print_text.ensures.whole

pub returns-clause-refused : goal.returns-clause-refused
returns-clause-refused g c =
    let part = c.in-Err-print_text.ensures.part in
    record {
      grown = c.requires.grown;
      why = inr (
        c.in_default.ensures.kept,
        inr ((ap fetch.Run c.in-Err-print_text.ensures.fault, part.failed), part_of _ (string_bytes c.in-Ok.text) c.as_bytes.result.now _ c.in-Ok.ensures.fed c.as_bytes.ensures.value part),
      );
      fair = tt;
    }
