-- The digits of a date, from its text in an HTTP field such as `Fri, 24 May 2013 00:00:00 GMT`.
use Rattle.std.specs.Prelude.{ℕ, ◌+◌, [], ◌∷◌, ◌++◌, codes, slice_index, bytes_eq, if◌then◌else◌}
use Rattle.tl_hash.specs.Bytes.{Bytes}

-- the number of a month in two digits, from the first three letters of its name
abbrev pub month_digits : Bytes → Bytes
month_digits name =
    if bytes_eq name (codes "Jan") then codes "01" else
    (if bytes_eq name (codes "Feb") then codes "02" else
    (if bytes_eq name (codes "Mar") then codes "03" else
    (if bytes_eq name (codes "Apr") then codes "04" else
    (if bytes_eq name (codes "May") then codes "05" else
    (if bytes_eq name (codes "Jun") then codes "06" else
    (if bytes_eq name (codes "Jul") then codes "07" else
    (if bytes_eq name (codes "Aug") then codes "08" else
    (if bytes_eq name (codes "Sep") then codes "09" else
    (if bytes_eq name (codes "Oct") then codes "10" else
    (if bytes_eq name (codes "Nov") then codes "11" else codes "12"))))))))))

-- the two bytes from this index on
abbrev pub two_at : Bytes → ℕ → Bytes
two_at text place = slice_index text place ∷ slice_index text (place + 1) ∷ []

-- the first three letters of the month's name
abbrev pub name_in : Bytes → Bytes
name_in text = slice_index text 8 ∷ slice_index text 9 ∷ slice_index text 10 ∷ []

-- the day in eight digits
abbrev pub day_in : Bytes → Bytes
day_in text = two_at text 12 ++ two_at text 14 ++ month_digits (name_in text) ++ two_at text 5

-- the time in sixteen characters
abbrev pub time_in : Bytes → Bytes
time_in text =
    day_in text ++ codes "T" ++ two_at text 17 ++ two_at text 20 ++ two_at text 23 ++ codes "Z"
