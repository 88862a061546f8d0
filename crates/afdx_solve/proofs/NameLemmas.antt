-- A text of letters and digits alone is written in quotes as it is.
use Rattle.std.proofs.Common.{◌≡◌, ℕ, true, false, ◌==◌, List, [], ◌∷◌, refl, arith}
use Rattle.std.proofs.lemmas.Bool.{and_parts}
use Rattle.std.proofs.lemmas.Bool.Decides.{nat_tests}
use Rattle.std.specs.Char.{is_ascii_alphanumeric}
use Rattle.std.specs.List.{list_all, list_any}
use Rattle.toml_writer.specs.Text.{string_text, encoding_of, escaped, needs_escape, quotes_after, is_control, has}
use Rattle.afdx_solve.specs.ConfigText.{in_quotes}

abbrev pub IsWord : List ℕ → Type 0
IsWord s = list_all is_ascii_alphanumeric s ≡ true

-- what a letter or a digit is to the printer
record IsPlain (c : ℕ) : Type 0 where
  control : is_control c ≡ false
  backslash : (c == 92) ≡ false
  quote : (c == 34) ≡ false
  line_feed : (c == 10) ≡ false
  kept : needs_escape false 0 c ≡ false
  none_after : quotes_after false 0 c ≡ 0

plain : (c : ℕ) → is_ascii_alphanumeric c ≡ true → IsPlain c
unfolding needs_escape quotes_after
plain c h = record {
  control = grind (arith, nat_tests);
  backslash = grind (arith, nat_tests);
  quote = grind (arith, nat_tests);
  line_feed = grind (arith, nat_tests);
  kept = grind (arith, nat_tests);
  none_after = grind (arith, nat_tests);
}

escaped-word : (s : List ℕ) → IsWord s → escaped false 0 s ≡ s
unfolding escaped
escaped-word [] h = refl
escaped-word (c ∷ cs) h =
    let (here, more) = and_parts (is_ascii_alphanumeric c) (list_all is_ascii_alphanumeric cs) h in
    let p = plain c here in
    rw (p.kept, p.none_after, escaped-word cs more)

-- none of them is special
record HasNone (s : List ℕ) : Type 0 where
  control : list_any is_control s ≡ false
  backslash : has 92 s ≡ false
  quote : has 34 s ≡ false
  line_feed : has 10 s ≡ false

has_none : (s : List ℕ) → IsWord s → HasNone s
has_none [] h = record { control = refl; backslash = refl; quote = refl; line_feed = refl }
has_none (c ∷ cs) h =
    let (here, more) = and_parts (is_ascii_alphanumeric c) (list_all is_ascii_alphanumeric cs) h in
    let p = plain c here in
    let rest = has_none cs more in
    record {
      control = rw (p.control, rest.control);
      backslash = rw (p.backslash, rest.backslash);
      quote = rw (p.quote, rest.quote);
      line_feed = rw (p.line_feed, rest.line_feed);
    }

pub word-text : (s : List ℕ) → IsWord s → string_text s ≡ in_quotes s
unfolding string_text encoding_of
word-text s h =
    let none = has_none s h in
    rw (none.control, none.backslash, none.quote, none.line_feed, escaped-word s h)
