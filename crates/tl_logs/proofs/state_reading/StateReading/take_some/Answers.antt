use Rattle.std.proofs.Common.{◌++◌, ◌∷◌, [], sym, refl, take}
use Rattle.tl_logs.specs.Inner.Counting.{counts_of}
use Rattle.tl_logs.proofs.BlockLaws.{behind, front_plain, refused_all, refused_end, refused_front, small_front, some_behind, some_more, took_all, took_line}
use Rattle.tl_logs.proofs.Newlines.{no_newline, nothing_left}
use Rattle.tl_logs.proofs.state_reading.StateReading.take_some.Goals as goal

pub begin-requires : goal.begin-requires
begin-requires g c = no_newline c.args.bytes.now c.in_default.ensures

pub returns-in-Ok-clause-taken : goal.returns-in-Ok-clause-taken
returns-in-Ok-clause-taken g c = λ input small read.
    took_all g.T.TreeHash.digest_of (counts_of c.args.counting.now) c.begin.new.self input c.args.bytes.now _ (nothing_left c.args.bytes.now _ refl)
    (c.in-Ok.ensures (counts_of c.args.counting.now) input [] (some_more c.args.bytes.now [] c.requires) read)

pub returns-in-Err-clause-refused : goal.returns-in-Err-clause-refused
returns-in-Err-clause-refused g c = λ input small read.
    refused_all g.T.TreeHash.digest_of (counts_of c.args.counting.now) input c.args.bytes.now c.in-Err.fault
    (c.in-Err.ensures (counts_of c.args.counting.now) input [] (some_more c.args.bytes.now [] c.requires) read)

pub begin-requires-2 : goal.begin-requires-2
begin-requires-2 g c = front_plain c.args.bytes.now c.in-Some.end (sym c.in-Some.ensures)

pub returns-in-Err-begin-clause-refused : goal.returns-in-Err-begin-clause-refused
returns-in-Err-begin-clause-refused g c = λ input small read.
    let found = sym c.in-Some.ensures in
    refused_front c.args.bytes.now c.in-Some.end found g.T.TreeHash.digest_of (counts_of c.args.counting.now) input c.in-Err-begin.fault
    (c.in-Err-begin.ensures (counts_of c.args.counting.now) input (10 ∷ behind c.args.bytes.now c.in-Some.end) (some_behind c.args.bytes.now c.in-Some.end found) read)

pub returns-in-Ok-end_line-clause-taken : goal.returns-in-Ok-end_line-clause-taken
returns-in-Ok-end_line-clause-taken g c = λ input small read.
    let found = sym c.in-Some.ensures in
    let rest = behind c.args.bytes.now c.in-Some.end in
    let begun = c.in-Ok-begin.ensures (counts_of c.args.counting.now) input (10 ∷ rest) (some_behind c.args.bytes.now c.in-Some.end found) read in
    took_line c.args.bytes.now c.in-Some.end found g.T.TreeHash.digest_of (counts_of c.args.counting.now) c.end_line.new.self input
    (c.in-Ok-end_line.ensures (input ++ take c.in-Some.end c.args.bytes.now) rest (small_front c.args.bytes.now c.in-Some.end found input small) begun)

pub returns-in-Err-end_line-clause-refused : goal.returns-in-Err-end_line-clause-refused
returns-in-Err-end_line-clause-refused g c = λ input small read.
    let found = sym c.in-Some.ensures in
    let rest = behind c.args.bytes.now c.in-Some.end in
    let begun = c.in-Ok-begin.ensures (counts_of c.args.counting.now) input (10 ∷ rest) (some_behind c.args.bytes.now c.in-Some.end found) read in
    refused_end c.args.bytes.now c.in-Some.end found g.T.TreeHash.digest_of (counts_of c.args.counting.now) input c.in-Err-end_line.fault
    (c.in-Err-end_line.ensures (input ++ take c.in-Some.end c.args.bytes.now) rest (small_front c.args.bytes.now c.in-Some.end found input small) begun)
