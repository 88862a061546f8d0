-- The line of a frame that is sent, read as a line of a frame list.
use Rattle.std.proofs.Common.{◌≡◌, ℕ, zero, suc, ◌/◌, ◌%◌, ◌^◌, ◌-◌, ◌<◌, ◌≤◌, ◌==◌, ◌&&◌}
use Rattle.std.proofs.Common.{Bool, true, false, nat_lt, nat_eq, List, [], ◌∷◌, ◌++◌, length}
use Rattle.std.proofs.Common.{Option, Some, None, Ok, refl, ap, sym, ◌∙◌, subst, arith}
use Rattle.std.proofs.Common.{append_assoc}
use Rattle.std.proofs.lemmas.Bool.Decides.{nat_tests}
use Rattle.std.proofs.lemmas.Grind.{common_steps}
use Rattle.std.proofs.lemmas.Fmt.{decimal_nonempty, digits_decimal, digits_value-decimal, length-decimal-le}
use Rattle.std.proofs.lemmas.List.{length-append}
use Rattle.std.proofs.lemmas.List.Splits.{slice_split_at, slice_split_none}
use Rattle.std.proofs.lemmas.Str.Parse.{IsDigitsTest, IsNumeralModel, numerals_by_fold}
use Rattle.std.specs.Char.{is_ascii_digit}
use Rattle.std.specs.Fmt.{decimal}
use Rattle.std.specs.Int.{IsInRange}
use Rattle.std.specs.List.{All, AllByRecursion, slice_index}
use Rattle.std.specs.Option.{is_some}
use Rattle.std.specs.Str.{bytes_eq}
use Rattle.std.specs.Str.Lines.{strip_carriage_return}
use Rattle.hex.specs.Hex.{encode_with, encode_lower, lower_digits}
use Rattle.hex.proofs.HexLemmas.{decode_of-encode_lower, length-encode_with}
use Rattle.afdx_frame.specs.Lengths.{greatest_frame}
use Rattle.afdx_frame.specs.Sealing.{AreBytes}
use Rattle.afdx_frame.specs.declared.link.Side.{Side}
use Rattle.afdx_frame.specs.declared.link.Side.TheVariants.{A, B}
use Rattle.afdx_police.specs.Arrival.{arrival_with}
use Rattle.afdx_input_lines.specs.Splitting.{between_spaces, number_of, number_after, all_digits}
use Rattle.afdx_input_lines.specs.Fields.{bytes_of_digits}
use Rattle.afdx_input_lines.specs.Forms.{from_five, five_of, said_with}
use Rattle.afdx_input_lines.specs.FrameLines.{FrameFields, kind_of, side_of, frame_fields, frame_fields_with}
use Rattle.afdx_input_lines.specs.FrameLines.{frame_fields_from, frame_bytes, frame_form, numbers_fault, line_says}
use Rattle.afdx_input_lines.specs.Lines.{lines_of, longest_line}
use Rattle.afdx_frame.specs.Times.{latest_listed}
use Rattle.afdx_input_lines.proofs.FieldLemmas.{number_of_digits}
use Rattle.afdx_input_lines.proofs.FormLemmas.{says_item}
use Rattle.afdx_input_lines.proofs.LineLemmas.{lines_of_feed, lines_of_nothing}
use Rattle.afdx_port.proofs.TurnLemmas.{eqb-other}
use Rattle.afdx_input_sources.specs.Lists.{with_item, items_of, fault_in, fault_said, HaveNoFault}
use Rattle.afdx_input_sources.specs.Listed.{frames, arrivals_of}
use Rattle.afdx_replay.specs.policing.Text.{side_text}
use Rattle.afdx_law_text.specs.SentLaws.{IsArrival}
use Rattle.afdx_command_tables.specs.sending.Text.{sent_line}

-- bytes that a frame may have
pub record AreOfFrame (bytes : List ℕ) : Type 0 where
  pub are_bytes : AreBytes bytes
  pub least : 1 ≤ length bytes
  pub most : length bytes ≤ greatest_frame

-- ---- bytes that are no less than one of them

abbrev pub AtLeast : ℕ → List ℕ → Type 0
AtLeast n xs = AllByRecursion (λ x. n ≤ x) xs

pub append-least : (n : ℕ) (xs ys : List ℕ) → AtLeast n xs → AtLeast n ys → AtLeast n (xs ++ ys)
append-least n [] ys h k = k
append-least n (x ∷ xs) ys h k = (h.0, append-least n xs ys h.1 k)

pub lower-least : (m n : ℕ) (xs : List ℕ) → m ≤ n → AtLeast n xs → AtLeast m xs
lower-least m n [] le h = tt
lower-least m n (x ∷ xs) le h = ((let k : n ≤ x = h.0 in omega (arith, k, le)), lower-least m n xs le h.1)

pub none-below : (n b : ℕ) (xs : List ℕ) → b < n → AtLeast n xs → All (λ x. (x == b) ≡ false) xs
none-below n b [] lt h k d within = absurd (omega (arith, within))
none-below n b (x ∷ xs) lt h zero d within =
    eqb-other x b (λ e. (let k : n ≤ x = h.0 in absurd (omega (arith, e, k, lt))))
none-below n b (x ∷ xs) lt h (suc k) d within = none-below n b xs lt h.1 k d (omega (arith, within))

pub index-least : (n i : ℕ) (xs : List ℕ) → i < length xs → AtLeast n xs → n ≤ slice_index xs i
index-least n i [] lt h = absurd (omega (arith, lt))
index-least n zero (x ∷ xs) lt h = h.0
index-least n (suc i) (x ∷ xs) lt h = index-least n i xs (omega (arith, lt)) h.1

-- ---- digits

and_parts : (a b : Bool) → (a && b) ≡ true → (a ≡ true) × (b ≡ true)
and_parts true b h = (refl, h)
and_parts false b h = absurd (cc h)

and_false : (b : Bool) → (b && false) ≡ false
and_false true = refl
and_false false = refl

digit-range : (c : ℕ) → is_ascii_digit c ≡ true → IsInRange 48 57 c
digit-range c h = (grind (arith, nat_tests, h), grind (arith, nat_tests, h))

range-digit : (c : ℕ) → IsInRange 48 57 c → is_ascii_digit c ≡ true
range-digit c h = let low = h.0 in let high = h.1 in grind (arith, nat_tests, low, high)

abbrev AreDigits : List ℕ → Type 0
AreDigits ds = all_digits ds ≡ true

digits-test : IsDigitsTest AreDigits
digits-test = record {
  empty = refl;
  parts = λ c cs h. (let k = and_parts (is_ascii_digit c) (all_digits cs) h in (digit-range c k.0, k.1));
  more = λ c cs r h. rw (range-digit c r) h;
}

numerals : IsNumeralModel AreDigits (number_after 0)
numerals = numerals_by_fold AreDigits digits-test number_after (record { empty = λ n. refl; more = λ n c cs r. refl })

pub number-decimal : (n : ℕ) → n < 2 ^ 64 → number_of (decimal n) ≡ Some n
number-decimal n h = number_of_digits (decimal n) (decimal_nonempty n h)
    (digits_decimal numerals n h) ∙ ap Some (digits_value-decimal numerals n h)

digits-least : (ds : List ℕ) → AreDigits ds → AtLeast 48 ds
digits-least [] h = tt
digits-least (c ∷ cs) h =
    (let k = and_parts (is_ascii_digit c) (all_digits cs) h in
    ((digit-range c k.0).0, digits-least cs k.1))

pub decimal-least : (n : ℕ) → n < 2 ^ 64 → AtLeast 48 (decimal n)
decimal-least n h = digits-least (decimal n) (digits_decimal numerals n h)

table-least : AtLeast 48 lower_digits
table-least = (
  omega arith,
  (
    omega arith,
    (
      omega arith,
      (
        omega arith,
        (
          omega arith,
          (
            omega arith,
            (
              omega arith,
              (
                omega arith,
                (
                  omega arith,
                  (
                    omega arith,
                    (omega arith, (omega arith, (omega arith, (omega arith, (omega arith, (omega arith, tt)))))),
                  ),
                ),
              ),
            ),
          ),
        ),
      ),
    ),
  ),
)

hex-least : (bytes : List ℕ) → AreBytes bytes → AtLeast 48 (encode_lower bytes)
unfolding encode_with
hex-least [] h = tt
hex-least (b ∷ bytes) h =
    let small : b < 256 = h 0 in (
      index-least 48 (b / 16) lower_digits (omega (arith, small)) table-least,
      (index-least 48 (b % 16) lower_digits (omega (arith, small)) table-least, hex-least bytes (λ i. h (suc i))),
    )

not_dash : (bytes : List ℕ) → 1 ≤ length bytes → bytes_eq (encode_lower bytes) (45 ∷ []) ≡ false
unfolding encode_with
not_dash [] some = absurd (omega (arith, some))
not_dash (b ∷ bytes) some = and_false (nat_eq (slice_index lower_digits (b / 16)) 45)

pub bytes-back : (bytes : List ℕ) → AreBytes bytes → 1 ≤ length bytes → bytes_of_digits (encode_lower bytes)
    ≡ Some bytes
unfolding bytes_of_digits
bytes-back bytes are some = rw (not_dash bytes some, decode_of-encode_lower bytes are) refl

-- ---- the line

pub side-least : (side : Side) → AtLeast 48 (side_text side)
side-least A = (omega arith, tt)
side-least B = (omega arith, tt)

the_fields : (o : Option FrameFields) → is_some o ≡ true → FrameFields
the_fields None h = absurd (cc h)
the_fields (Some fields) h = fields

-- what its fields are once the numbers are read: those of raw bytes
record Reads (side : Side) (time port : ℕ) (digits bytes : List ℕ) : Type 0 where
  fields : FrameFields
  are : from_five frame_fields_with (kind_of (82 ∷ [])) (Some time) (side_of (side_text side))
      (Some port) digits ≡ Some fields
  time_is : fields.time ≡ time
  port_is : fields.port ≡ port
  digits_are : fields.digits ≡ digits
  frame : said_with frame_form fields (Some bytes) ≡ Ok
      (Some (record { time = time; side = side; port = port; bytes = bytes }))

reads : (side : Side) (time port : ℕ) (digits bytes : List ℕ) → 0 < length digits → Reads side time port digits bytes
unfolding frame_bytes the_fields
reads A time port [] bytes some = absurd (omega (arith, some))
reads B time port [] bytes some = absurd (omega (arith, some))
reads A time port (d ∷ digits) bytes some = record {
  fields = the_fields (from_five frame_fields_with (kind_of (82 ∷ [])) (Some time) (side_of (side_text A))
      (Some port) (d ∷ digits)) refl;
  are = refl;
  time_is = refl;
  port_is = refl;
  digits_are = refl;
  frame = refl;
}
reads B time port (d ∷ digits) bytes some = record {
  fields = the_fields (from_five frame_fields_with (kind_of (82 ∷ [])) (Some time) (side_of (side_text B))
      (Some port) (d ∷ digits)) refl;
  are = refl;
  time_is = refl;
  port_is = refl;
  digits_are = refl;
  frame = refl;
}

pub no-fault : (time port latest : ℕ) → 1 ≤ port → port ≤ 24 → time ≤ latest_listed → latest ≤ time
    → numbers_fault time port latest ≡ None
no-fault time port latest one most early late = grind (arith, nat_tests, one, most, early, late)

-- at a place: a side, and where each side has several switches the name of one
abbrev pub line_of : (place : List ℕ) → ℕ → ℕ → List ℕ → List ℕ
line_of place port time digits = 82 ∷ 32 ∷ (decimal time ++ 32 ∷ (place ++ 32 ∷ (decimal port ++ 32 ∷ digits)))

pub line-feed : (place : List ℕ) (port time : ℕ) (bytes : List ℕ)
    → line_of place port time (encode_lower bytes) ++ 10 ∷ [] ≡ sent_line place port time bytes
line-feed place port time bytes =
    let d = encode_lower bytes in
    let port_on = append_assoc (decimal port) (32 ∷ d) (10 ∷ []) in
    let place_on = append_assoc place (32 ∷ (decimal port ++ 32 ∷ d)) (10 ∷ [])
    ∙ ap (λ (z : List ℕ). place ++ 32 ∷ z) port_on in
    let time_on = append_assoc (decimal time) (32 ∷ (place ++ 32 ∷ (decimal port ++ 32 ∷ d))) (10 ∷ [])
    ∙ ap (λ (z : List ℕ). decimal time ++ 32 ∷ z) place_on in
    ap (λ (z : List ℕ). 82 ∷ 32 ∷ z) time_on ∙ grind (arith, common_steps)

pub digits-are : (bytes : List ℕ) → AreOfFrame bytes → AtLeast 48 (encode_lower bytes)
digits-are bytes frame = hex-least bytes frame.are_bytes

pub line-least : (place : List ℕ) (port time : ℕ) (bytes : List ℕ) → AtLeast 32 place → port ≤ 24
    → time ≤ latest_listed → AreOfFrame bytes → AtLeast 32 (line_of place port time (encode_lower bytes))
line-least place port time bytes least most early frame = (
  omega arith,
  (
    omega arith,
    append-least 32 (decimal time) (32 ∷ (place ++ 32 ∷ (decimal port ++ 32 ∷ encode_lower bytes)))
        (lower-least 32 48 (decimal time) (omega arith) (decimal-least time (omega (arith, early)))) (
          omega arith,
          append-least 32 place (32 ∷ (decimal port ++ 32 ∷ encode_lower bytes)) least (
            omega arith,
            append-least 32 (decimal port) (32 ∷ encode_lower bytes)
                (lower-least 32 48 (decimal port) (omega arith) (decimal-least port (omega (arith, most))))
                (omega arith, lower-least 32 48 (encode_lower bytes) (omega arith) (digits-are bytes frame)),
          ),
        ),
  ),
)

module _ (side : Side) (port time : ℕ) (bytes : List ℕ) (one : 1 ≤ port) (most : port ≤ 24)
    (early : time ≤ latest_listed) (frame : AreOfFrame bytes) where
  abbrev pub digits : List ℕ
  digits = encode_lower bytes

  abbrev pub line : List ℕ
  line = line_of (side_text side) port time digits

  time_fits : time < 2 ^ 64
  time_fits = omega (arith, early)

  port_fits : port < 2 ^ 64
  port_fits = omega (arith, most)

  digits_least : AtLeast 48 digits
  digits_least = hex-least bytes frame.are_bytes

  line_least : AtLeast 32 line
  line_least = line-least (side_text side) port time bytes (lower-least 32 48 (side_text side) (omega arith)
      (side-least side)) most early frame

  one-line : lines_of (sent_line (side_text side) port time bytes) ≡ line ∷ []
  one-line =
      ap lines_of (sym (line-feed (side_text side) port time bytes))
      ∙ lines_of_feed line [] (none-below 32 10 line (omega arith) line_least)
      ∙ ap (λ (z : List (List ℕ)). line ∷ z) lines_of_nothing

  no-return : line ≡ strip_carriage_return line
  no-return = rw (eqb-other (slice_index line (length line - 1)) 13
      (λ e. (let k = index-least 32 (length line - 1) line (omega arith) line_least in
      absurd (omega (arith, e, k))))) refl

  parts : between_spaces line ≡ (82 ∷ []) ∷ decimal time ∷ side_text side ∷ decimal port ∷ digits ∷ []
  parts =
      let p : ℕ → Bool = λ byte. byte == 32 in
      let rest_port = decimal port ++ 32 ∷ digits in
      let rest_side = side_text side ++ 32 ∷ rest_port in
      let rest_time = decimal time ++ 32 ∷ rest_side in
      let last = slice_split_none p digits (none-below 48 32 digits (omega arith) digits_least) in
      let at_port = slice_split_at p (decimal port) 32 digits
      (none-below 48 32 (decimal port) (omega arith) (decimal-least port port_fits)) refl
      ∙ ap (λ (z : List (List ℕ)). decimal port ∷ z) last in
      let at_side = slice_split_at p (side_text side) 32 rest_port
      (none-below 48 32 (side_text side) (omega arith) (side-least side)) refl
      ∙ ap (λ (z : List (List ℕ)). side_text side ∷ z) at_port in
      let at_time = slice_split_at p (decimal time) 32 rest_side
      (none-below 48 32 (decimal time) (omega arith) (decimal-least time time_fits)) refl
      ∙ ap (λ (z : List (List ℕ)). decimal time ∷ z) at_side in
      slice_split_at p (82 ∷ []) 32 rest_time
      (none-below 48 32 (82 ∷ []) (omega arith) (omega arith, tt)) refl
      ∙ ap (λ (z : List (List ℕ)). (82 ∷ []) ∷ z) at_time

  some_digits : 0 < length digits
  some_digits = let n = length-encode_with lower_digits bytes in let k = frame.least in omega (arith, n, k)

  r : Reads side time port digits bytes
  r = reads side time port digits bytes some_digits

  fields-are : frame_fields line ≡ Some r.fields
  unfolding frame_fields
  fields-are =
      ap (five_of frame_fields_from) parts
      ∙ ap (λ t. from_five frame_fields_with (kind_of (82 ∷ [])) t (side_of (side_text side))
      (number_of (decimal port)) digits) (number-decimal time time_fits)
      ∙ ap (λ n. from_five frame_fields_with (kind_of (82 ∷ [])) (Some time) (side_of (side_text side)) n digits)
      (number-decimal port port_fits) ∙ r.are

  r_early : r.fields.time ≤ latest_listed
  r_early = let t = r.time_is in omega (arith, t, early)

  r_most : r.fields.port ≤ 24
  r_most = let n = r.port_is in omega (arith, n, most)

  r_one : 1 ≤ r.fields.port
  r_one = let n = r.port_is in omega (arith, n, one)

  r_late : (latest : ℕ) → latest ≤ time → latest ≤ r.fields.time
  r_late latest late = let t = r.time_is in omega (arith, t, late)

  pub says-after : (latest : ℕ) → latest ≤ time
      → line_says latest line ≡ Ok (Some
      (record { time = time; side = side; port = port; bytes = bytes }))
  unfolding line_says
  says-after latest late =
      says_item frame_form latest line line no-return refl r.fields fields-are
      (no-fault r.fields.time r.fields.port latest r_one r_most r_early (r_late latest late))
      ∙ ap (said_with frame_form r.fields)
      (ap bytes_of_digits r.digits_are ∙ bytes-back bytes frame.are_bytes frame.least) ∙ r.frame

  pub says : line_says 0 line ≡ Ok (Some (record { time = time; side = side; port = port; bytes = bytes }))
  says = says-after 0 (omega arith)

  pub short : length line ≤ longest_line
  short =
      let t = length-decimal-le 16 time (omega arith) (omega (arith, early)) time_fits in
      let p = length-decimal-le 2 port (omega arith) (omega (arith, most)) port_fits in
      let d = length-encode_with lower_digits bytes in
      let a = length-append (decimal time) (32 ∷ (side_text side ++ 32 ∷ (decimal port ++ 32 ∷ digits))) in
      let b = length-append (side_text side) (32 ∷ (decimal port ++ 32 ∷ digits)) in
      let c = length-append (decimal port) (32 ∷ digits) in
      let s : length (side_text side) ≡ 1 = side-one side in
      let m = frame.most in
      omega (arith, t, p, d, a, b, c, s, m)
    where
      side-one : (side : Side) → length (side_text side) ≡ 1
      side-one A = refl
      side-one B = refl

  fine : fault_in frames (line ∷ []) 0 ≡ None
  unfolding items_of
  fine = let size : nat_lt longest_line (length line) ≡ false = grind (arith, nat_tests, short) in
      rw size (ap (λ r. fault_said 1 r) says)

  arrived : items_of frames (line ∷ []) 1 ≡ arrival_with 1 time side port bytes ∷ []
  unfolding items_of
  arrived = ap (λ r. with_item frames 1 r []) says

  are-sound : HaveNoFault frames (line ∷ []) 1
  are-sound zero lt = fine
  are-sound (suc i) lt = absurd (omega (arith, lt))

  pub sent-line : IsArrival (sent_line (side_text side) port time bytes) (arrival_with 1 time side port bytes)
  sent-line = record {
    one_line = ap length one-line;
    sound = subst (λ (z : List (List ℕ)). HaveNoFault frames z 1) (sym one-line) are-sound;
    arrivals = subst (λ (z : List (List ℕ)). arrivals_of z 1 ≡ arrival_with 1 time side port bytes
        ∷ []) (sym one-line) arrived;
  }
