-- Dates and times by their seconds.
use Rattle.std.proofs.Common.{◌≡◌, ℕ, ◌<◌, ap, sym, ◌∙◌, refl, arith}
use Rattle.httpdate.specs.declared.parts.Parts.{Parts}
use Rattle.httpdate.specs.declared.date.HttpDate.{HttpDate}
use Rattle.httpdate.specs.Calendar.{weekday, days_from_civil}
use Rattle.httpdate.proofs.CalendarLemmas.{days_from_civil_bound}
use Rattle.httpdate.proofs.Theorems.{unix_secs_injective}
use Rattle.tl_s3.specs.Time.{Civil, IsCivilAt}

-- the parts of this date and time
abbrev parts_of : Civil → Parts
parts_of t =
    record {
      year = t.year;
      mon = t.month;
      day = t.day;
      hour = t.hour;
      min = t.minute;
      sec = t.second;
      wday = weekday (days_from_civil t.year t.month t.day);
    }

-- the HTTP date at this second
abbrev date_at : (seconds : ℕ) (t : Civil) → IsCivilAt seconds t → HttpDate
date_at seconds t at =
    record { parts = parts_of t; civil = at.date; time = at.time; right_day = refl }

-- what the parts state
abbrev said : Parts → Civil
said p =
    record {
      year = p.year;
      month = p.mon;
      day = p.day;
      hour = p.hour;
      minute = p.min;
      second = p.sec;
    }

pub one_at : (seconds : ℕ) (t u : Civil) → IsCivilAt seconds t → IsCivilAt seconds u → t ≡ u
one_at seconds t u h k =
    ap said (unix_secs_injective (date_at seconds t h) (date_at seconds u k)
    (h.seconds_before ∙ sym k.seconds_before))

-- before the year 10000
pub before_end : (seconds : ℕ) (t : Civil) → IsCivilAt seconds t → seconds < 253402300800
before_end seconds t h =
    omega (arith, days_from_civil_bound t.year t.month t.day h.date, h.time, h.seconds_before)
