-- Commands on a log in a bucket.
use Rattle.std.specs.Prelude.{◌≡◌, ◌⊎◌, ℕ, [], ◌∷◌, ◌++◌, Bool, false, length, Option, Some, None, OnOk, Result, Ok, Err, string_bytes}
use Rattle.hex.specs.Hex.{encode_lower}
use Rattle.tl_archive.specs.Shelves.{Held}
use Rattle.tl_append.specs.Running.{BeginsAsAsked, GoesOn, Stays, batch_size, visit}
use Rattle.tl_append.specs.declared.options.AppendOptions.{AppendOptions}
use Rattle.tl_bucket.specs.Buckets.{Bucketed, bucket_kept, bucket_trace, no_objects}
use Rattle.tl_bucket.specs.Finishing.{FinishesLog}
use Rattle.tl_bucket.specs.Opened.{BeginsThere, IsAtEnd, KnowsShown, RefusesPuts}
use Rattle.tl_bucket.specs.declared.fault.BucketFault.{BucketFault}
use Rattle.tl_command.specs.CheckOpened.{IsIdle}
use Rattle.tl_run.specs.declared.fault.RunFault.{RunFault}
use Rattle.tl_device.specs.Device.{Passage, IsUnread}
use Rattle.tl_folder.specs.Folders.{Reached}
use Rattle.tl_hash.specs.Bytes.{Bytes}
use Rattle.tl_ledger.specs.Opening.{Found, found_size}
use Rattle.tl_s3.specs.Objects.{Place}
use Rattle.tl_serve.specs.Serving.{IsLeft, Serves}
use Rattle.tl_serve.specs.declared.options.ServeOptions.{ServeOptions}
use Rattle.tl_source.specs.Url.{IsUrl}
use Rattle.tl_text.specs.Text.{IsOneLine, line}
use Rattle.tl_cli.specs.Lasting.{ServesAsAsked, nobody}
use Rattle.tl_cli.specs.declared.fault.CommandFault.{CommandFault}
use Rattle.tl_cli.specs.declared.fault.CommandFault.TheVariants.{Run, Bucket}
use Rattle.tl_cli.specs.declared.in_bucket.AppendToOptions.{AppendToOptions}
use Rattle.tl_cli.specs.declared.in_bucket.ServeFromOptions.{ServeFromOptions}
use Rattle.tl_cli.specs.declared.own_bucket.BucketOptions.{BucketOptions}

-- how a command ends whose run on a bucket had this outcome: with its own fault, or with that of the bucket
abbrev pub EndsInBucket : Result (Unit {0}) RunFault → Result (Unit {0}) CommandFault → Type 0
EndsInBucket (Ok done) result = result ≡ Ok done
EndsInBucket (Err fault) result = (result ≡ Err (Run fault)) ⊎ ((why : BucketFault) × (result ≡ Err (Bucket why)))

-- the command fails
abbrev pub IsRefused : Result (Unit {0}) CommandFault → Type 0
IsRefused result = (fault : CommandFault) × (result ≡ Err fault)

-- a text of two lines, a key's name and its secret; the last may lack its newline
pub record IsKeyText (text id secret : Bytes) : Type 0 where
  pub name : IsOneLine id
  pub hidden : IsOneLine secret
  pub lines : (text ≡ line id ++ secret) ⊎ (text ≡ line id ++ line secret)

-- the key is that in a file, if the options name one; or the environment has it
abbrev pub IsKeyFor : BucketOptions → Bytes → Bytes → Type 0
IsKeyFor options id secret = (options.credentials ≡ None) ⊎ ((text : Bytes) × IsKeyText text id secret)

-- 16 bytes, in hexadecimal
abbrev pub IsToken : Bytes → Type 0
IsToken token = (bytes : Bytes) × (length bytes ≡ 16) × (token ≡ encode_lower bytes)

-- the place is that of an address, which may end with a slash
abbrev pub IsPlaceOf : Bytes → Place → Type 0
IsPlaceOf address p = (text host : Bytes) × (port : ℕ) × ((address ≡ text) ⊎ (address ≡ text ++ 47 ∷ []))
    × IsUrl text p.host host port p.prefix

-- the bucket that the options name was opened, with nothing waiting and nothing done yet. A log begins there if that
-- is asked for, and otherwise there is one. The store refused puts whose conditions didn't hold, and the next append
-- comes behind the last commit that was found
pub record OpensBucket (options : BucketOptions) (new : Bool) (b : Bucketed) : Type 0 where
  pub named : b.place ≡ string_bytes options.address
  pub at : IsPlaceOf (string_bytes options.address) b.objects.at
  pub region : b.objects.at.credential.region ≡ string_bytes options.region
  pub key : IsKeyFor options b.objects.at.credential.id b.objects.at.credential.secret
  pub refuses : RefusesPuts b.objects.at
  pub token : Bytes
  pub drawn : IsToken token
  pub end : IsAtEnd b.objects.at token b.objects.claims
  pub waiting : b.objects ≡ no_objects b.objects.at b.objects.claims b.objects.shown
  pub shown : KnowsShown b.objects.at b.objects.shown
  pub begins : BeginsThere new b.objects.claims b.objects.shown
  pub reads : b.reads_anew ≡ false
  pub events : b.events ≡ []
  pub unmarked : b.published ≡ None

-- what others began in an opened bucket was finished, and then the log went on from what was found there, as one in a
-- folder does. It has as many entries as the commits append, unless nothing was read or written
pub record GoesOnThere (held : Held) (reached : Reached) (opened : Bucketed) (options : AppendOptions) (i o : Passage) (result : Result (Unit {0}) CommandFault) : Type 0 where
  pub before : Bucketed
  pub finished : FinishesLog held reached options.key (string_bytes options.origin) opened before (Ok tt)
  pub after : Bucketed
  pub place : after.place ≡ opened.place
  pub found : Found
  pub outcome : Result (Unit {0}) RunFault
  pub start : Stays (visit (bucket_kept held reached) (bucket_trace held reached) before after) i
      ⊎ (found_size found.head ≡ before.objects.claims.start)
  pub goes_on : GoesOn options.key (string_bytes options.origin) (batch_size options.batch) found
      (visit (bucket_kept held reached) (bucket_trace held reached) before after) i o outcome
  pub begins : OnOk outcome (BeginsAsAsked options.is_new found.head)
  pub ends : EndsInBucket outcome result

-- `append` in an opened bucket; or what others began couldn't be finished, and nothing was read or written here
abbrev pub AppendsThere : Held → Reached → Bucketed → AppendOptions → Passage → Passage → Result (Unit {0}) CommandFault → Type 0
AppendsThere held reached opened options i o result =
    (IsRefused result × IsIdle i o) ⊎ GoesOnThere held reached opened options i o result

-- `append` in the bucket that the options name; or it couldn't be opened
abbrev pub AppendsTo : Held → Reached → AppendToOptions → Passage → Passage → Result (Unit {0}) CommandFault → Type 0
AppendsTo held reached options i o result = (IsRefused result × IsIdle i o)
    ⊎ ((opened : Bucketed) × OpensBucket options.bucket options.append.is_new opened × AppendsThere held reached opened options.append i o result)

-- the same for a log that is served
pub record ServesBucket (held : Held) (reached : Reached) (opened : Bucketed) (options : ServeOptions) (result : Result (Unit {0}) CommandFault) : Type 0 where
  pub before : Bucketed
  pub finished : FinishesLog held reached options.key (string_bytes options.origin) opened before (Ok tt)
  pub after : Bucketed
  pub place : after.place ≡ opened.place
  pub found : Found
  pub outcome : Result (Unit {0}) RunFault
  pub start : IsLeft (visit (bucket_kept held reached) (bucket_trace held reached) before after)
      ⊎ (found_size found.head ≡ before.objects.claims.start)
  pub begins : ServesAsAsked options found (visit (bucket_kept held reached) (bucket_trace held reached) before after)
  pub serves : Serves options.key (string_bytes options.origin) nobody found
      (visit (bucket_kept held reached) (bucket_trace held reached) before after) outcome
  pub ends : EndsInBucket outcome result

-- `serve` in an opened bucket
abbrev pub ServesThere : Held → Reached → Bucketed → ServeOptions → Passage → Result (Unit {0}) CommandFault → Type 0
ServesThere held reached opened options i result = (IsRefused result × IsUnread i) ⊎ ServesBucket held reached opened options result

-- `serve` in the bucket that the options name
abbrev pub ServesFrom : Held → Reached → ServeFromOptions → Passage → Result (Unit {0}) CommandFault → Type 0
ServesFrom held reached options i result = (IsRefused result × IsUnread i)
    ⊎ ((opened : Bucketed) × OpensBucket options.bucket options.serve.is_new opened × ServesThere held reached opened options.serve i result)
