use Rattle.std.proofs.Common.{◌≡◌, take, min}
use Rattle.std.specs.Char.{is_ascii_digit}
use Rattle.std.specs.Str.Parse.{digits_value}
use Rattle.httparse.specs.Grammar.{AllPass}
use Rattle.tl_http.proofs.field_values.number_in.Given as goal

-- the bytes so far are digits, and write this number
abbrev pub invariant-loop-byte : goal.invariant-loop-byte
invariant-loop-byte l = record {
  digits : AllPass is_ascii_digit (take l.byte-index l.text);
  value : l.n ≡ min (digits_value 10 (take l.byte-index l.text)) 18446744073709551615;
}
