-- The message of a bucket's fault.
use Rattle.std.specs.Prelude.{◌++◌, codes}
use Rattle.tl_hash.specs.Bytes.{Bytes}
use Rattle.tl_text.specs.Text.{number_text}
use Rattle.tl_device.specs.Faults.{device_words}
use Rattle.tl_bucket.specs.declared.fault.BucketFault.{BucketFault}
use Rattle.tl_bucket.specs.declared.fault.BucketFault.TheVariants as fault

abbrev pub bucket_words : BucketFault → Bytes
bucket_words (fault.Device why) = device_words why
bucket_words fault.ClockIsOff = codes "the clock is more than 15 minutes off"
bucket_words fault.NoConditions = codes "the store takes no conditional puts"
bucket_words fault.Outrun = codes "another operator has appended"
bucket_words (fault.BadCommit number) = codes "commit " ++ number_text number ++ codes " is damaged"
bucket_words fault.NothingThere = codes "no log there (use --new to begin one)"
