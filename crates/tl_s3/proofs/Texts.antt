-- The digits in an HTTP date's text are those of its day and its time.
use Rattle.std.proofs.Common.{◌≡◌, ℕ, zero, suc, ◌+◌, ◌/◌, ◌%◌, ◌<◌, List, [], ◌∷◌, ◌++◌, length, get_or, codes, ap, ◌∙◌, refl, arith}
use Rattle.std.specs.Int.{IsInRange}
use Rattle.std.specs.Str.{IsAscii, IsUtf8}
use Rattle.std.proofs.lemmas.Slice.Eq.{text_from_reads}
use Rattle.std.proofs.lemmas.Bool.Decides.{nat_tests}
use Rattle.std.proofs.lemmas.Str.{IsUtf8-from_ascii, IsAscii-append}
use Rattle.std.proofs.lemmas.Str.Ascii.{IsAscii-nil, IsAscii-cons}
use Rattle.httpdate.specs.declared.date.HttpDate.{HttpDate}
use Rattle.httpdate.specs.Date.{date_text}
use Rattle.httpdate.specs.Text.{day_name, month_name, two_digits, four_digits}
use Rattle.tl_s3.specs.Time.{civil_of, day_text, time_text}
use Rattle.tl_s3.specs.Inner.Digits.{day_in, time_in}

-- a day's name has three letters
three_letters : (n : ℕ) → n < 7 → length (day_name (n + 1)) ≡ 3
three_letters zero h = refl
three_letters (suc zero) h = refl
three_letters (suc (suc zero)) h = refl
three_letters (suc (suc (suc zero))) h = refl
three_letters (suc (suc (suc (suc zero)))) h = refl
three_letters (suc (suc (suc (suc (suc zero))))) h = refl
three_letters (suc (suc (suc (suc (suc (suc zero)))))) h = refl
three_letters (suc (suc (suc (suc (suc (suc (suc n))))))) h = absurd (omega arith)

three_items : (xs : List ℕ) → length xs ≡ 3 → xs ≡ get_or xs 0 0 ∷ get_or xs 1 0 ∷ get_or xs 2 0 ∷ []
three_items xs h = text_from_reads xs _ h (refl, (refl, (refl, tt)))

-- what stands before the month's name, and what stands after it
abbrev whole : List ℕ → ℕ → List ℕ → ℕ → List ℕ → List ℕ → List ℕ → List ℕ
whole name day month year hour minute second =
    name ++ codes ", " ++ two_digits day ++ codes " " ++ month ++ codes " " ++ four_digits year ++ codes " "
    ++ (hour ++ codes ":" ++ minute ++ codes ":" ++ second) ++ codes " GMT"

-- both texts, from a month's number
abbrev Tells : List ℕ → ℕ → ℕ → ℕ → ℕ → ℕ → ℕ → Type 0
Tells name day month year hour minute second =
    (day_in (whole name day (month_name month) year (two_digits hour) (two_digits minute) (two_digits second))
    ≡ four_digits year ++ two_digits month ++ two_digits day)
    × (time_in (whole name day (month_name month) year (two_digits hour) (two_digits minute) (two_digits second))
    ≡ (four_digits year ++ two_digits month ++ two_digits day) ++ codes "T"
    ++ two_digits hour ++ two_digits minute ++ two_digits second ++ codes "Z")

tells : (a b c day month year hour minute second : ℕ) → IsInRange 1 12 month → Tells (a ∷ b ∷ c ∷ []) day month year hour minute second
tells a b c day zero year hour minute second h = absurd (omega (arith, h.0))
tells a b c day (suc zero) year hour minute second h = (refl, refl)
tells a b c day (suc (suc zero)) year hour minute second h = (refl, refl)
tells a b c day (suc (suc (suc zero))) year hour minute second h = (refl, refl)
tells a b c day (suc (suc (suc (suc zero)))) year hour minute second h = (refl, refl)
tells a b c day (suc (suc (suc (suc (suc zero))))) year hour minute second h = (refl, refl)
tells a b c day (suc (suc (suc (suc (suc (suc zero)))))) year hour minute second h = (refl, refl)
tells a b c day (suc (suc (suc (suc (suc (suc (suc zero))))))) year hour minute second h = (refl, refl)
tells a b c day (suc (suc (suc (suc (suc (suc (suc (suc zero)))))))) year hour minute second h = (refl, refl)
tells a b c day (suc (suc (suc (suc (suc (suc (suc (suc (suc zero))))))))) year hour minute second h = (refl, refl)
tells a b c day (suc (suc (suc (suc (suc (suc (suc (suc (suc (suc zero)))))))))) year hour minute second h = (refl, refl)
tells a b c day (suc (suc (suc (suc (suc (suc (suc (suc (suc (suc (suc zero))))))))))) year hour minute second h = (refl, refl)
tells a b c day (suc (suc (suc (suc (suc (suc (suc (suc (suc (suc (suc (suc zero)))))))))))) year hour minute second h = (refl, refl)
tells a b c day (suc (suc (suc (suc (suc (suc (suc (suc (suc (suc (suc (suc (suc n))))))))))))) year hour minute second h = absurd (omega (arith, h.1))

named : (name : List ℕ) (day month year hour minute second : ℕ) → length name ≡ 3 → IsInRange 1 12 month → Tells name day month year hour minute second
named name day month year hour minute second three h =
    rw (three_items name three) (tells (get_or name 0 0) (get_or name 1 0) (get_or name 2 0) day month year hour minute second h)

weekday_name : (d : HttpDate) → length (day_name d.parts.wday) ≡ 3
weekday_name d = rw d.right_day (three_letters _ (omega arith))

-- both texts of a date
both : (d : HttpDate) → (day_in (date_text d) ≡ day_text (civil_of d)) × (time_in (date_text d) ≡ time_text (civil_of d))
both d = named (day_name d.parts.wday) d.parts.day d.parts.mon d.parts.year d.parts.hour d.parts.min d.parts.sec (weekday_name d) d.civil.1

pub day_is : (d : HttpDate) → day_in (date_text d) ≡ day_text (civil_of d)
day_is d = (both d).0

pub time_is : (d : HttpDate) → time_in (date_text d) ≡ time_text (civil_of d)
time_is d = (both d).1

-- the digits of a number below 100
two_ascii : (n : ℕ) → n < 100 → IsAscii (two_digits n)
two_ascii n h =
    IsAscii-cons (48 + n / 10) ((48 + n % 10) ∷ []) (omega arith)
    (IsAscii-cons (48 + n % 10) [] (omega arith) IsAscii-nil)

-- a day of a month has two digits
day_below : (d : HttpDate) → d.parts.day < 100
day_below d = grind (arith, nat_tests, d.civil.2.1)

four_ascii : (n : ℕ) → n < 10000 → IsAscii (four_digits n)
four_ascii n h =
    IsAscii-append (two_digits (n / 100)) (two_digits (n % 100))
    (two_ascii (n / 100) (omega arith)) (two_ascii (n % 100) (omega arith))

date_ascii : (year month day : ℕ) → year < 10000 → month < 100 → day < 100
    → IsAscii (four_digits year ++ two_digits month ++ two_digits day)
date_ascii year month day h k l =
    IsAscii-append (four_digits year) (two_digits month ++ two_digits day) (four_ascii year h)
    (IsAscii-append (two_digits month) (two_digits day) (two_ascii month k) (two_ascii day l))

clock_ascii : (hour minute second : ℕ) → hour < 100 → minute < 100 → second < 100
    → IsAscii (codes "T" ++ two_digits hour ++ two_digits minute ++ two_digits second ++ codes "Z")
clock_ascii hour minute second h k l =
    IsAscii-cons 84 (two_digits hour ++ two_digits minute ++ two_digits second ++ codes "Z") (omega arith)
    (IsAscii-append (two_digits hour) (two_digits minute ++ two_digits second ++ codes "Z") (two_ascii hour h)
    (IsAscii-append (two_digits minute) (two_digits second ++ codes "Z") (two_ascii minute k)
    (IsAscii-append (two_digits second) (codes "Z") (two_ascii second l)
    (IsAscii-cons 90 [] (omega arith) IsAscii-nil))))

day_ascii : (d : HttpDate) → IsAscii (day_text (civil_of d))
day_ascii d =
    date_ascii d.parts.year d.parts.mon d.parts.day
    (omega (arith, d.civil.0.1)) (omega (arith, d.civil.1.1)) (day_below d)

time_ascii : (d : HttpDate) → IsAscii (time_text (civil_of d))
time_ascii d =
    let late = codes "T" ++ two_digits d.parts.hour ++ two_digits d.parts.min ++ two_digits d.parts.sec ++ codes "Z" in
    IsAscii-append (day_text (civil_of d)) late (day_ascii d)
    (clock_ascii d.parts.hour d.parts.min d.parts.sec (omega (arith, d.time.0)) (omega (arith, d.time.1)) (omega (arith, d.time.2)))

pub day_utf8 : (d : HttpDate) (text day : List ℕ) → text ≡ date_text d → day ≡ day_in text → IsUtf8 day
day_utf8 d text day e f =
    rw (f ∙ ap day_in e ∙ day_is d) (IsUtf8-from_ascii (day_text (civil_of d)) (day_ascii d))

pub time_utf8 : (d : HttpDate) (text time : List ℕ) → text ≡ date_text d → time ≡ time_in text → IsUtf8 time
time_utf8 d text time e f =
    rw (f ∙ ap time_in e ∙ time_is d) (IsUtf8-from_ascii (time_text (civil_of d)) (time_ascii d))
