-- Workers that put side by side.
use Rattle.std.specs.Prelude.{List, Result}
use Rattle.tl_archive.specs.Shelves.{Item}
use Rattle.tl_s3.specs.Objects.{Place}
use Rattle.tl_bucket.specs.declared.fault.BucketFault.{BucketFault}

-- what a worker has to put, into which bucket, and the outcome
pub record Work : Type 0 where
  pub at : Place
  pub items : List Item
  pub told : Result (Unit {0}) BucketFault
