use Rattle.std.proofs.Common.{refl, rules}
use Rattle.std.proofs.KnownBytes.{Keeps-refl}
use Rattle.tl_device.specs.Device.{passage}
use Rattle.tl_cli.proofs.FileRuns.{runs_fork, runs_open}
use Rattle.tl_cli.proofs.running.run_job.Goals as goal

pub returns-in-Head : goal.returns-in-Head
returns-in-Head g c = rw c.in-Head.is ((c.head.result, c.head.ensures, c.after_run.ensures), search rules)

pub returns-in-Build : goal.returns-in-Build
returns-in-Build g c = rw c.in-Build.is ((c.build.result, c.build.ensures, c.after_run-in-Build.ensures), search rules)

pub returns-in-BuildSigned : goal.returns-in-BuildSigned
returns-in-BuildSigned g c =
    rw c.in-BuildSigned.is ((c.build_signed.result, c.build_signed.ensures, c.after_run-in-BuildSigned.ensures), search rules)

pub returns-in-Append : goal.returns-in-Append
returns-in-Append g c =
    rw c.in-Append.is ((c.append.result, (c.append.ensures.refuses, c.append.ensures.appends), search rules), search rules)

pub returns-in-CheckUnder : goal.returns-in-CheckUnder
returns-in-CheckUnder g c =
    rw c.in-CheckUnder.is ((c.check_under.result, c.check_under.ensures, c.after_run-in-CheckUnder.ensures), search rules)

pub returns-in-Fetch : goal.returns-in-Fetch
returns-in-Fetch g c = rw c.in-Fetch.is
    ((c.run_fetch.result, c.run_fetch.ensures, c.after_fetch.ensures), (Keeps-refl (g.R.Read.remaining c.args.reader.now.device), refl))

pub returns-in-FetchBy : goal.returns-in-FetchBy
returns-in-FetchBy g c = rw c.in-FetchBy.is
    ((c.run_fetch_by.result, c.run_fetch_by.ensures, c.after_prove.ensures), (Keeps-refl (g.R.Read.remaining c.args.reader.now.device), refl))

pub returns-in-FeedBy : goal.returns-in-FeedBy
returns-in-FeedBy g c = rw c.in-FeedBy.is
    ((c.run_feed_by.result, c.run_feed_by.ensures, c.after_prove-in-FeedBy.ensures), (Keeps-refl (g.R.Read.remaining c.args.reader.now.device), refl))

pub returns-in-Feed : goal.returns-in-Feed
returns-in-Feed g c = rw c.in-Feed.is
    ((c.run_feed.result, c.run_feed.ensures, c.after_fetch-in-Feed.ensures), (Keeps-refl (g.R.Read.remaining c.args.reader.now.device), refl))

pub returns-in-Witness : goal.returns-in-Witness
returns-in-Witness g c = rw c.in-Witness.is ((c.witness.result, c.witness.ensures.refuses, c.after_witness.ensures), c.witness.ensures.spares)

pub returns-in-Serve : goal.returns-in-Serve
returns-in-Serve g c = rw c.in-Serve.is ((c.serve.result, (c.serve.ensures.refuses, c.serve.ensures.serves), search rules), search rules)

pub returns-in-AppendTo : goal.returns-in-AppendTo
returns-in-AppendTo g c = rw c.in-AppendTo.is (c.append_to.ensures, search rules)

pub returns-in-ServeFrom : goal.returns-in-ServeFrom
returns-in-ServeFrom g c = rw c.in-ServeFrom.is (c.serve_from.ensures, search rules)

pub returns-in-CheckFork : goal.returns-in-CheckFork
returns-in-CheckFork g c = rw c.in-CheckFork.is
    ((c.run_check_fork.result, runs_fork _ _ _ _ _ c.run_check_fork.ensures c.deref.ensures, c.after_run-in-CheckFork.ensures), search rules)

pub returns-in-Open : goal.returns-in-Open
returns-in-Open g c = rw c.in-Open.is (
  (
    c.run_open.result,
    runs_open _ c.deref-in-Open.result.now (passage g.R.Read.remaining c.args.reader.now c.run_open.new.reader)
        (passage g.W.Write.contents c.args.writer.now c.run_open.new.writer) c.run_open.result c.run_open.ensures c.deref-in-Open.ensures,
    c.after_run-in-Open.ensures,
  ),
  search rules,
)

pub returns-in-Verify : goal.returns-in-Verify
returns-in-Verify g c = rw c.in-Verify.is ((c.run_verify.result, c.run_verify.ensures, c.after_prove-in-Verify.ensures), (Keeps-refl (g.E.Write.contents c.args.errors.now.device), refl))

pub returns-in-Prove : goal.returns-in-Prove
returns-in-Prove g c = rw c.in-Prove.is (
  (c.run_prove.result, c.run_prove.ensures, c.after_prove-in-Prove.ensures),
  (Keeps-refl (g.R.Read.remaining c.args.reader.now.device), refl),
  (Keeps-refl (g.E.Write.contents c.args.errors.now.device), refl),
)

pub returns-in-Submit : goal.returns-in-Submit
returns-in-Submit g c = rw c.in-Submit.is
    ((c.run_submit.result, c.run_submit.ensures, c.after_prove-in-Submit.ensures), (Keeps-refl (g.R.Read.remaining c.args.reader.now.device), refl))
