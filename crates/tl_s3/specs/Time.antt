-- Times in UTC, and the texts in which they are signed (ISO 8601, basic format).
use Rattle.std.specs.Prelude.{◌≡◌, ℕ, ◌++◌, codes}
use Rattle.httpdate.specs.Calendar.{IsCivilDate, IsTimeOfDay, seconds_from_civil}
use Rattle.httpdate.specs.Text.{two_digits, four_digits}
use Rattle.httpdate.specs.declared.date.HttpDate.{HttpDate}
use Rattle.tl_hash.specs.Bytes.{Bytes}

-- a day, and a second of that day
pub record Civil : Type 0 where
  pub year : ℕ
  pub month : ℕ
  pub day : ℕ
  pub hour : ℕ
  pub minute : ℕ
  pub second : ℕ

-- the seconds since the start of 1970, without leap seconds: those of the years before by the Gregorian rule, of the
-- months before, of the days before, and of the time of day
abbrev pub seconds_of : Civil → ℕ
seconds_of t = seconds_from_civil t.year t.month t.day t.hour t.minute t.second

-- this is a date of the calendar, in a year from 1970 to 9999, with a time of day, and it comes this many seconds
-- after the start of 1970
pub record IsCivilAt (seconds : ℕ) (t : Civil) : Type 0 where
  pub date : IsCivilDate t.year t.month t.day
  pub time : IsTimeOfDay t.hour t.minute t.second
  pub seconds_before : seconds_of t ≡ seconds

-- the date and time of an HTTP date
abbrev pub civil_of : HttpDate → Civil
civil_of d =
    record {
      year = d.parts.year;
      month = d.parts.mon;
      day = d.parts.day;
      hour = d.parts.hour;
      minute = d.parts.min;
      second = d.parts.sec;
    }

-- the day, such as 20130524
abbrev pub day_text : Civil → Bytes
day_text t = four_digits t.year ++ two_digits t.month ++ two_digits t.day

-- the time, such as 20130524T000000Z
abbrev pub time_text : Civil → Bytes
time_text t =
    day_text t ++ codes "T"
    ++ two_digits t.hour ++ two_digits t.minute ++ two_digits t.second ++ codes "Z"
