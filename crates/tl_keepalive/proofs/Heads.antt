-- The head that bytes begin with, found in the first 8,192 of them.
use Rattle.std.proofs.Common.{◌≡◌, ℕ, ◌+◌, ◌-◌, ◌≤◌, min, List, [], ◌++◌, length, length-append, map, ◌⊎◌, inl, inr, take, drop, sym, ap, subst, ◌∙◌, append_assoc, append-nil, arith}
use Rattle.std.proofs.lemmas.List.{take-append-drop, length-map, length-take-le}
use Rattle.std.proofs.Math.Seq.{take-append-add}
use Rattle.http1.specs.Fields.{known_fields}
use Rattle.http1.specs.Framing.{method_kind}
use Rattle.http1.specs.declared.fields.KnownFields.{KnownFields}
use Rattle.http1.specs.declared.framing.MethodKind.{MethodKind}
use Rattle.httparse.specs.declared.spans.HeaderSpan.{HeaderSpan}
use Rattle.httparse.specs.declared.spans.RequestSpans.{RequestSpans}
use Rattle.httparse.specs.Grammar.{HasNoRequest, ReadsRequest, RequestHead, print_request}
use Rattle.httparse.specs.Spans.{IsRequestOf, IsRequestWithin, RequestOverflows, header_bytes, name_and_value, span_bytes}
use Rattle.tl_hash.specs.Bytes.{Bytes}
use Rattle.tl_server.specs.Head.{HasHead}
use Rattle.tl_keepalive.specs.Inner.Facts.{AreFacts, HasNoHead}

-- ---- no head

unfinished : (bytes : Bytes) → HasNoRequest bytes → HasNoHead bytes
unfinished bytes none head rest is = none head rest is.reads

refused : (bytes : Bytes) → RequestOverflows 64 bytes → HasNoHead bytes
refused bytes over head rest is =
    let many = over [] head rest (subst (λ (l : Bytes). ReadsRequest l head rest) (sym (append-nil bytes)) is.reads) in
    let few = is.few in
    absurd (omega (arith, many, few))

no_head : (bytes : Bytes) → HasNoRequest bytes ⊎ RequestOverflows 64 bytes → HasNoHead bytes
no_head bytes (inl none) = unfinished bytes none
no_head bytes (inr over) = refused bytes over

module _ (bytes : Bytes) (n : ℕ) (front : n ≡ min (length bytes) 8192) where
  -- a head is in the first bytes
  in_front : (head : RequestHead) (rest : Bytes) → HasHead bytes head rest → HasHead (take n bytes) head (take (n - length (print_request head)) rest)
  in_front head rest is =
      let p = print_request head in
      let whole : length bytes ≡ length p + length rest = ap (λ (l : Bytes). length l) is.reads.1 ∙ length-append p rest in
      let within : length p + (n - length p) ≡ n = omega (arith, front, whole, is.short) in
      let part : take n bytes ≡ p ++ take (n - length p) rest =
      ap (λ (l : Bytes). take n l) is.reads.1 ∙ (ap (λ (m : ℕ). take m (p ++ rest)) (sym within) ∙ take-append-add p rest (n - length p)) in
      record { reads = (is.reads.0, part); short = is.short; few = is.few }

  pub nowhere : HasNoRequest (take n bytes) ⊎ RequestOverflows 64 (take n bytes) → HasNoHead bytes
  nowhere none head rest is = no_head (take n bytes) none head (take (n - length (print_request head)) rest) (in_front head rest is)

  module _ (headers : List HeaderSpan) (spans : RequestSpans) (room : length headers ≡ 64)
      (within : IsRequestWithin (take n bytes) headers spans) (of : IsRequestOf (take n bytes) headers spans) where
    abbrev head : RequestHead
    head = of.0

    few : length head.fields ≤ 64
    few =
        let same = ap (λ (l : List (Bytes × Bytes)). length l) of.1.fields in
        let kept = length-map (take spans.headers headers) (header_bytes (take n bytes)) in
        let all = length-map head.fields name_and_value in
        let part = length-take-le spans.headers headers within.section.count_fits in
        let fits = within.section.count_fits in
        omega (arith, same, kept, all, part, fits, room)

    short : length (print_request head) ≤ 8192
    short =
        let fits = within.section.len_fits in
        let len = of.1.len in
        let all : length (take n bytes) ≡ n = length-take-le n bytes (omega (arith, front)) in
        omega (arith, fits, len, all, front)

    pub are_facts : (len minor : ℕ) (method : MethodKind) (fields : KnownFields) → len ≡ spans.len → minor ≡ spans.version
        → method ≡ method_kind (span_bytes (take n bytes) spans.method)
        → fields ≡ known_fields (map (header_bytes (take n bytes)) (take spans.headers headers))
        → AreFacts bytes (record { len = len; minor = minor; method = method; fields = fields })
    are_facts len minor method fields is_len is_minor is_method is_fields =
        let rest = drop spans.len (take n bytes) ++ drop n bytes in
        let joined : bytes ≡ print_request head ++ rest =
        sym (take-append-drop n bytes) ∙ (ap (λ (l : Bytes). l ++ drop n bytes) of.1.reads.1 ∙ append_assoc (print_request head) (drop spans.len (take n bytes)) (drop n bytes)) in
        record {
          head = head;
          rest = rest;
          begins = record { reads = (of.1.reads.0, joined); short = short; few = few };
          len = is_len ∙ of.1.len;
          minor = is_minor ∙ of.1.version;
          method = is_method ∙ ap method_kind of.1.method;
          fields = is_fields ∙ ap known_fields of.1.fields;
        }
