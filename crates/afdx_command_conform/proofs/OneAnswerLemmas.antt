-- Of one input there is one list of lines.
use Rattle.std.proofs.Common.{◌≡◌, ℕ, ◌+◌, ◌*◌, ◌<◌, ◌≤◌, Bool, true, false, ◌⊎◌, inl, inr, List, [], ◌∷◌, length, refl, sym, ap, ◌∙◌, subst, arith, true≢false}
use Rattle.std.proofs.lemmas.Bool.{eq-eqb, ltb-true, ltb-false}
use Rattle.std.proofs.lemmas.Option.{slice_get_within}
use Rattle.std.specs.Prelude.{Option, Some, None, ◌&&◌, nat_eq, nat_lt, option_and_then, if◌then◌else◌}
use Rattle.std.specs.Option.{option_map_or}
use Rattle.std.specs.List.{AllByRecursion}
use Rattle.afdx_conform.proofs.EveryLemmas.{every-on}
use Rattle.afdx_config.specs.Rows.{LinkRow, Rows}
use Rattle.afdx_frame.specs.declared.link.Side.{Side}
use Rattle.afdx_input_runs.specs.Joining.{Frame}
use Rattle.afdx_command_conform.specs.Choices.{Choices}
use Rattle.afdx_command_conform.specs.Keys.{is_key, is_link, link_rank, side_rank}
use Rattle.afdx_command_conform.specs.Lines.{AreInOrder, AreLines, Due, dues_by, dues_of, of_key, rank, stream_dues}
use Rattle.afdx_command_conform.specs.RunLaws.{ThereIsOneAnswer}
use Rattle.afdx_command_conform.specs.Tapped.{is_judged, judged_to, link_to}
use Rattle.afdx_command_conform.specs.declared.key.Key.{Key}
use Rattle.afdx_command_conform.proofs.KeyLemmas.{key-cases, key-turned, link-to, side-of-rank, side-small}
use Rattle.afdx_command_conform.proofs.OfKeyLemmas.{its-key, of-each-key, other-key, own-key, own-keys}

-- ---- keys in range, told apart by their rank

pub record IsRanged (k : Key) : Type 0 where
  pub port : k.port < 256
  pub link : link_rank k.link < 0x100000000

link-of-rank : (a b : Option ℕ) → link_rank a ≡ link_rank b → is_link a b ≡ true
link-of-rank None None e = refl
link-of-rank None (Some b) e = absurd (omega (arith, e))
link-of-rank (Some a) None e = absurd (omega (arith, e))
link-of-rank (Some a) (Some b) e = eq-eqb a b (omega (arith, e))

ranks : (m n s p l r q k : ℕ) → s ≤ 1 → r ≤ 1 → p < 256 → q < 256 → l < 0x100000000 → k < 0x100000000
    → m * 18446744073709551616 + ((s * 256 + p) * 0x100000000 + l) ≡ n * 18446744073709551616
    + ((r * 256 + q) * 0x100000000 + k)
    → (s ≡ r) × (p ≡ q) × (l ≡ k)
ranks m n s p l r q k s1 r1 p1 q1 l1 k1 e =
    let at : m ≡ n = omega (arith, s1, r1, p1, q1, l1, k1, e) in
    let up : s * 256 + p ≡ r * 256 + q = omega (arith, at, l1, k1, e) in (
      omega (arith, up, p1, q1),
      omega (arith, up, p1, q1, s1, r1),
      omega (arith, at, up, e),
    )

rank-key : (a b : Due) → IsRanged a.key → IsRanged b.key → rank a ≡ rank b → is_key a.key b.key ≡ true
unfolding is_key
rank-key a b ra rb e =
    let same = ranks a.moment b.moment (side_rank a.key.side) a.key.port (link_rank a.key.link) (side_rank b.key.side)
    b.key.port
    (link_rank b.key.link) (side-small a.key.side) (side-small b.key.side) ra.port rb.port ra.link rb.link e in
    ap (λ (v : Bool). v && nat_eq a.key.port b.key.port && is_link a.key.link b.key.link)
    (side-of-rank a.key.side b.key.side same.0)
    ∙ ap (λ (v : Bool). v && is_link a.key.link b.key.link) (eq-eqb a.key.port b.key.port same.1)
    ∙ link-of-rank a.key.link b.key.link same.2

-- ---- one among others

abbrev IsOneOf : Due → List Due → Type 0
IsOneOf d [] = ⊥
IsOneOf d (e ∷ lines) = (e ≡ d) ⊎ IsOneOf d lines

of-key-one : (k : Key) (d : Due) (lines more : List Due) → of_key k lines ≡ d ∷ more → IsOneOf d lines
of-key-one k d [] more e = absurd (cc)
of-key-one k d (f ∷ lines) more e = elim (key-cases k f.key) [
  | inl same ↦ inl (first f d (of_key k lines) more (sym (own-key k f lines same) ∙ e))
  | inr other ↦ inr (of-key-one k d lines more (sym (other-key k f lines other) ∙ e))
]
  where
    first : (f d : Due) (xs ys : List Due) → f ∷ xs ≡ d ∷ ys → f ≡ d
    first f d xs ys e = cc

below : (d e : Due) (lines : List Due) → AreInOrder (d ∷ lines) → IsOneOf e lines → rank e ≤ rank d
unfolding AreInOrder
below d e [] h m = absurd m
below d e (f ∷ lines) h (inl same) = let le = h.0 in let is = ap (λ (x : Due). rank x) same in omega (arith, le, is)
below d e (f ∷ lines) h (inr m) = let le = h.0 in let less = below f e lines h.1 m in omega (arith, le, less)

-- ---- two lists

abbrev pub AreRanged : List Due → Type 0
AreRanged lines = AllByRecursion (λ d. IsRanged d.key) lines

abbrev IsOnlyOne : List Due → List Due → Type 0
IsOnlyOne lines others = (k : Key) → of_key k lines ≡ of_key k others

tail-same : (d e : Due) (lines others : List Due) → d ≡ e → IsOnlyOne (d ∷ lines) (e ∷ others) → IsOnlyOne lines others
tail-same d e lines others same all k = elim (key-cases k d.key) [
  | inl is ↦ rest d e (of_key k lines) (of_key k others)
      (sym (own-key k d lines is) ∙ all k ∙ own-key k e others (ap (λ (x : Due). is_key k x.key) (sym same) ∙ is))
  | inr other ↦ sym (other-key k d lines other) ∙ all k
      ∙ other-key k e others (ap (λ (x : Due). is_key k x.key) (sym same) ∙ other)
]
  where
    rest : (d e : Due) (xs ys : List Due) → d ∷ xs ≡ e ∷ ys → xs ≡ ys
    rest d e xs ys h = cc

first-same : (d e : Due) (lines others : List Due) → AreRanged (d ∷ lines) → AreRanged (e ∷ others)
    → AreInOrder (d ∷ lines) → AreInOrder (e ∷ others) → IsOnlyOne (d ∷ lines) (e ∷ others) → d ≡ e
first-same d e lines others rd re od oe all = elim (key-cases d.key e.key) [
  | inl is ↦ first d e (of_key d.key lines) (of_key d.key others) (sym (its-key d lines) ∙ all d.key
      ∙ own-key d.key e others is)
  | inr other ↦
      (let mine = of-key-one e.key e lines (of_key e.key others)
      (sym (other-key e.key d lines (key-turned d.key e.key other)) ∙ all e.key ∙ its-key e others) in
      let its = of-key-one d.key d others (of_key d.key lines)
      (sym (other-key d.key e others other) ∙ sym (all d.key) ∙ its-key d lines) in
      let one = below d e lines od mine in
      let two = below e d others oe its in
      absurd (true≢false (sym (rank-key d e rd.0 re.0 (omega (arith, one, two))) ∙ other)))
]
  where
    first : (f d : Due) (xs ys : List Due) → f ∷ xs ≡ d ∷ ys → f ≡ d
    first f d xs ys e = cc

only-one : (lines others : List Due) → AreRanged lines → AreRanged others → AreInOrder lines → AreInOrder others
    → IsOnlyOne lines others → lines ≡ others
unfolding AreInOrder
only-one [] [] rl ro ol oo all = refl
only-one [] (e ∷ others) rl ro ol oo all = absurd (let h = all e.key ∙ its-key e others in cc)
only-one (d ∷ lines) [] rl ro ol oo all = absurd (let h = sym (its-key d lines) ∙ all d.key in cc)
only-one (d ∷ lines) (e ∷ others) rl ro ol oo all =
    let same = first-same d e lines others rl ro ol oo all in
    let more = only-one lines others rl.1 ro.1 ol.1 oo.1 (tail-same d e lines others same all) in
    ap (λ (x : Due). x ∷ lines) same ∙ ap (λ (l : List Due). e ∷ l) more

-- ---- lines have keys in range

pub judged-link : (t : Rows) (c : Choices) (side : Side) (place port : ℕ) (l : LinkRow)
    → judged_to t c.sight side place port ≡ Some l
    → link_to t place port ≡ Some l
unfolding judged_to
judged-link t c side place port l e = by (link_to t place port) e
  where
    test : (k : LinkRow) (b : Bool) → (if b then Some k else None) ≡ Some l → Some k ≡ Some l
    test k true h = h
    test k false h = absurd (cc)

    by : (o : Option LinkRow) → option_and_then (λ k. if is_judged t c.sight side k port then Some k else None) o
        ≡ Some l → o ≡ Some l
    by None h = absurd (cc)
    by (Some k) h = test k (is_judged t c.sight side k port) h

all-ranged : (k : Key) (lines : List Due) → AllByRecursion (λ d. k ≡ d.key) lines
    → ((d : Due) (more : List Due) → lines ≡ d ∷ more → IsRanged k) → AreRanged lines
all-ranged k [] h f = tt
all-ranged k (d ∷ lines) h f =
    let r = f d lines refl in
    every-on (λ (x : Due). k ≡ x.key) (λ (x : Due). IsRanged x.key) (λ x e. subst (λ (q : Key). IsRanged q) e r)
    (d ∷ lines) h

module _ (t : Rows) (c : Choices) (until : ℕ) (frames : List Frame) (few : length t.links < 0x100000000) where
  ranged-own : (k : Key) (d : Due) (more : List Due) → k.port < 256 → dues_of t c until frames k ≡ d ∷ more → IsRanged k
  ranged-own k d more port e = record { port = port; link = by k.link e }
    where
      by-stream : (place : ℕ) (o : Option LinkRow) → judged_to t c.sight k.side place k.port ≡ o
          → option_map_or (stream_dues t c until frames k) o [] ≡ d ∷ more → place + 1 < 0x100000000
      by-stream place None is h = absurd (cc)
      by-stream place (Some l) is h =
          let at = slice_get_within t.links place l
          (link-to t place k.port l (judged-link t c k.side place k.port l is)).at in
          omega (arith, at, few)

      by : (o : Option ℕ) → dues_by t c until frames k o ≡ d ∷ more → link_rank o < 0x100000000
      by None h = omega arith
      by (Some place) h = by-stream place (judged_to t c.sight k.side place k.port) refl h

  pub ranged : (lines : List Due) → AreLines t c until frames lines → AreRanged lines
  ranged lines are = of-each-key (λ d. IsRanged d.key) lines (λ k. by k (nat_lt k.port 256) refl)
    where
      by : (k : Key) (b : Bool) → nat_lt k.port 256 ≡ b → AllByRecursion (λ d. IsRanged d.key) (of_key k lines)
      by k true e =
          let port = ltb-true k.port 256 e in
          all-ranged k (of_key k lines) (own-keys k lines) (λ d more is. ranged-own k d more port
          (sym (are.own k port) ∙ is))
      by k false e =
          subst (λ (l : List Due). AllByRecursion (λ d. IsRanged d.key) l) (sym (are.only k (ltb-false k.port 256 e)))
          tt

  same-lines : (lines others : List Due) → AreLines t c until frames lines → AreLines t c until frames others
      → IsOnlyOne lines others
  same-lines lines others a b k = by (nat_lt k.port 256) refl
    where
      by : (v : Bool) → nat_lt k.port 256 ≡ v → of_key k lines ≡ of_key k others
      by true e = a.own k (ltb-true k.port 256 e) ∙ sym (b.own k (ltb-true k.port 256 e))
      by false e = a.only k (ltb-false k.port 256 e) ∙ sym (b.only k (ltb-false k.port 256 e))

pub one_answer : ThereIsOneAnswer
one_answer t c until frames lines others few a b =
    only-one lines others (ranged t c until frames few lines a) (ranged t c until frames few others b) a.in_order
    b.in_order
    (same-lines t c until frames few lines others a b)
