-- A source of numbers in order: one step more.
use Rattle.std.proofs.Common.{◌≡◌, ◌≤◌, ◌<◌, ℕ, suc, zero, List, [], ◌∷◌, ◌++◌, append_assoc, length, length-append, take, drop}
use Rattle.std.proofs.Common.{refl, ap, sym, ◌∙◌, subst, nat_lt, Bool, true, false, arith}
use Rattle.std.proofs.Math.Seq.{take-append_seam}
use Rattle.std.proofs.lemmas.List.{take-append-drop}
use Rattle.std.proofs.lemmas.List.Sorted.{IsPermutation-sym, IsPermutation-trans}
use Rattle.std.specs.List.Sorted.{IsPermutation}
use Rattle.afdx_input_sources.specs.Engine.{Item}
use Rattle.afdx_input_sources.specs.declared.number.AsRead.{AsRead}
use Rattle.afdx_input_sources.specs.declared.number.Number.{Number}
use Rattle.afdx_input_sources.specs.Holding.{ComesFirst}
use Rattle.afdx_input_sources.specs.NumberLines.{NumberFollows, ReadFollows}
use Rattle.afdx_input_sources.specs.OrderedSource.{AreForward, AreHeld, AreLeft}
use Rattle.afdx_input_sources.specs.Ordering.{all_handed, goes_back, handed_on, in_order, moment_of, put_among}
use Rattle.afdx_input_sources.specs.Sequences.{Numbers, is_arrival, latest_of, moment_or, number_read, numbers_read}
use Rattle.afdx_input_sources.proofs.FallingLemmas.{IsFalling, falling-take, first-is-last, left-handed, order-falls}
use Rattle.afdx_input_sources.proofs.FallingLemmas.{permutes-length, permutes-none, put-permutes}
use Rattle.afdx_input_sources.proofs.HandingLemmas.{AreOrdered, all-few, arrival-order, back-is, few-later, fits-more}
use Rattle.afdx_input_sources.proofs.HandingLemmas.{handed-ordered, held-full, held-more, ordered-behind, skipped-handed}
use Rattle.afdx_input_sources.proofs.HandingLemmas.{skipped-order}
use Rattle.afdx_input_sources.proofs.SortingLemmas.{put-split}
use Rattle.afdx_input_sources.proofs.SortingLemmas as sorting
use Rattle.std.proofs.lemmas.List.{length-map}

-- ---- moments

pub latest-next : (x : Item Number) (past : Numbers) → latest_of (x ∷ past) ≡ moment_or x.head (latest_of past)
unfolding latest_of
latest-next x past = refl

-- ---- lists

take-twice : {X : Type 0} (n : ℕ) (xs : List X) → take n (take n xs) ≡ take n xs
take-twice zero xs = refl
take-twice (suc n) [] = refl
take-twice (suc n) (x ∷ xs) = ap (λ ys. x ∷ ys) (take-twice n xs)

drop-taken : {X : Type 0} (n : ℕ) (xs : List X) → drop n (take n xs) ≡ []
drop-taken zero xs = refl
drop-taken (suc n) [] = refl
drop-taken (suc n) (x ∷ xs) = drop-taken n xs

-- two lists are the same, and so are their last things
pub record AreSameEnds {X : Type 0} (xs ys : List X) (x y : X) : Type 0 where
  pub front : xs ≡ ys
  pub last : x ≡ y

same-ends : {X : Type 0} (xs ys : List X) (x y : X) → xs ++ x ∷ [] ≡ ys ++ y ∷ [] → AreSameEnds xs ys x y
same-ends [] [] x y e = record { front = refl; last = cc }
same-ends [] (b ∷ []) x y e = absurd (cc)
same-ends [] (b ∷ c ∷ ys) x y e = absurd (cc)
same-ends (a ∷ []) [] x y e = absurd (cc)
same-ends (a ∷ c ∷ xs) [] x y e = absurd (cc)
same-ends (a ∷ xs) (b ∷ ys) x y e =
    let h : a ≡ b = cc in
    let t : xs ++ x ∷ [] ≡ ys ++ y ∷ [] = cc in
    let k = same-ends xs ys x y t in record { front = rw (h, k.front) refl; last = k.last }

-- what is still to be given comes behind what was
pub left-behind : (most left : ℕ) (numbers past : Numbers)
    → past ≡ drop left (take most (in_order numbers)) ++ handed_on most numbers
    → take left (take most (in_order numbers)) ++ past ≡ all_handed most numbers
left-behind most left numbers past e =
    let t = take most (in_order numbers) in
    ap (λ (xs : Numbers). take left t ++ xs) e
    ∙ sym (append_assoc (take left t) (drop left t) (handed_on most numbers))
    ∙ ap (λ (xs : Numbers). xs ++ handed_on most numbers) (take-append-drop left t)

-- ---- what may come

-- a number that is handed on may come behind those before it
pub follows-handed : (most : ℕ) (read : List (Item AsRead)) → AreForward most read → (later past : Numbers)
    (y : Item Number) → later ++ y ∷ past ≡ all_handed most (numbers_read read) → NumberFollows past y
follows-handed most read f later past y e =
    let o = handed-ordered most (numbers_read read) f.forward_is in
    let few = all-few most (numbers_read read) in
    let n = length-map read number_read in
    let m = ap (λ (xs : Numbers). length xs) e in
    let l = length-append later (y ∷ past) in record {
      order = (ordered-behind later (y ∷ past) (subst AreOrdered (sym e) o)).0;
      few = omega (arith, few, n, m, l, f.few);
    }

-- ---- one number more

module _ (most : ℕ) (read : List (Item AsRead)) (x : Item AsRead) (f : AreForward most read)
    (follows : ReadFollows read x) where
  abbrev Nums : Numbers
  Nums = numbers_read read

  abbrev X : Item Number
  X = number_read x

  abbrev HeldArrivals : Numbers
  HeldArrivals = take most (in_order Nums)

  pub more-forward : goes_back most X Nums ≡ false → AreForward most (x ∷ read)
  more-forward e = record {
    numbered = (follows.number, f.numbered);
    few = omega (arith, follows.few);
    forward_is = fits-more most X Nums f.forward_is e;
  }

  pub skipped-forward : is_arrival x.head.becomes ≡ false → goes_back most X Nums ≡ false
  skipped-forward e = rw e refl

  -- whether it goes back too far
  pub back-told : (latest : ℕ) (past : Numbers) (b : Bool) → is_arrival x.head.becomes ≡ true
      → latest ≡ latest_of past → past ≡ handed_on most Nums → nat_lt (moment_of X) latest ≡ b
      → goes_back most X Nums ≡ b
  back-told latest past b a l p e =
      sym (back-is most X Nums f.forward_is a)
      ∙ ap (λ (n : ℕ). nat_lt (moment_of X) n) (ap latest_of (sym p) ∙ sym l)
      ∙ e

  -- it is skipped
  pub pass-held : (held : List (Item Number)) (past : Numbers) → is_arrival x.head.becomes ≡ false
      → AreHeld most read held past → AreHeld most (x ∷ read) held (X ∷ past)
  pass-held held past e h = record {
    are_held = subst (λ (xs : Numbers). IsPermutation held (take most xs)) (sym (skipped-order X Nums e)) h.are_held;
    handed = ap (λ (xs : Numbers). X ∷ xs) h.handed ∙ sym (skipped-handed most X Nums e);
  }

  -- it is held, and there is room
  pub hold-held : (held held' : List (Item Number)) (past : Numbers) → is_arrival x.head.becomes ≡ true
      → IsPermutation (X ∷ held) held' → length held' ≤ most → AreHeld most read held past
      → AreHeld most (x ∷ read) held' past
  hold-held held held' past a p room h =
      let n = permutes-length (X ∷ held) held' p in
      let m = permutes-length held HeldArrivals h.are_held in
      let k = held-more most X Nums a (omega (arith, n, m, room)) in record {
        are_held = IsPermutation-trans held' (X ∷ held) (take most (in_order (X ∷ Nums)))
            (IsPermutation-sym (X ∷ held) held' p)
            (subst (λ (xs : Numbers). IsPermutation (X ∷ held) xs) (sym k.1)
            (put-permutes X held HeldArrivals h.are_held));
        handed = h.handed ∙ sym k.0;
      }

  -- what is held with it falls
  put-falls : is_arrival x.head.becomes ≡ true → (back : goes_back most X Nums ≡ false) →
      IsFalling (put_among X HeldArrivals)
  put-falls a back =
      let g = more-forward back in
      let all = order-falls (x ∷ read) g.few g.numbered in
      let split = arrival-order X Nums a
      ∙ put-split X most (in_order Nums) (sorting.order-falls Nums) (few-later most X Nums a back) in
      let front = put_among X HeldArrivals in
      subst IsFalling (take-append_seam front (drop most (in_order Nums)))
      (falling-take (length front) (front ++ drop most (in_order Nums)) (subst IsFalling split all))

  -- it is held, and the first of all is handed on
  pub exchange-held : (held held' held'' : List (Item Number)) (past : Numbers) (y : Item Number)
      → is_arrival x.head.becomes ≡ true → goes_back most X Nums ≡ false → IsPermutation (X ∷ held) held'
      → most < length held' → ComesFirst y held'' → IsPermutation held' (y ∷ held'') → AreHeld most read held past
      → AreHeld most (x ∷ read) held'' (y ∷ past)
  exchange-held held held' held'' past y a back p full first q h =
      let n = permutes-length (X ∷ held) held' p in
      let m = permutes-length held HeldArrivals h.are_held in
      let k = held-full most X Nums a back (omega (arith, n, m, full)) in
      let all = IsPermutation-trans held' (X ∷ held) (put_among X HeldArrivals) (IsPermutation-sym (X ∷ held) held' p)
      (put-permutes X held HeldArrivals h.are_held) in
      let last = first-is-last (put_among X HeldArrivals) held' y held'' (put-falls a back) all q first in
      let same = same-ends last.0 (take most (in_order (X ∷ Nums))) y k.0 (sym last.1 ∙ k.1) in record {
        are_held = subst (λ (xs : Numbers). IsPermutation held'' xs) same.front last.2;
        handed = rw (same.last, h.handed) (sym k.2);
      }

  first-put : most ≡ 0 → put_among X (take most (in_order Nums)) ≡ X ∷ []
  unfolding put_among
  first-put e = ap (λ (n : ℕ). put_among X (take n (in_order Nums))) e

  -- it stands, where none is ever held
  pub stand-held : (held : List (Item Number)) (past : Numbers) → most ≡ 0 → is_arrival x.head.becomes ≡ true
      → goes_back most X Nums ≡ false → AreHeld most read held past → AreHeld most (x ∷ read) held (X ∷ past)
  stand-held held past none a back h =
      let k = held-full most X Nums a back (omega (arith, none)) in
      let one : put_among X (take most (in_order Nums)) ≡ X ∷ [] = first-put none in
      let rest : take most (in_order (X ∷ Nums)) ≡ [] = ap (λ (n : ℕ). take n (in_order (X ∷ Nums))) none in
      let same = same-ends [] [] X k.0 (sym one ∙ k.1 ∙ ap (λ (xs : Numbers). xs ++ k.0 ∷ []) rest) in record {
        are_held = subst (λ (xs : Numbers). IsPermutation held xs)
            (ap (λ (n : ℕ). take n (in_order Nums)) none ∙ sym rest) h.are_held;
        handed = ap (λ (z : Item Number). z ∷ past) same.last ∙ ap (λ (xs : Numbers). k.0 ∷ xs) h.handed ∙ sym k.2;
      }

-- ---- all was read

pub left-at-end : (most : ℕ) (read : List (Item AsRead)) (held : List (Item Number)) (past : Numbers)
    → AreHeld most read held past → AreLeft most read held past
left-at-end most read held past h =
    let s = in_order (numbers_read read) in record {
      left = most;
      are_held = subst (λ (xs : Numbers). IsPermutation held xs) (sym (take-twice most s)) h.are_held;
      handed = h.handed ∙ ap (λ (xs : Numbers). xs ++ handed_on most (numbers_read read)) (sym (drop-taken most s));
    }

module _ (most : ℕ) (read : List (Item AsRead)) (f : AreForward most read) where
  abbrev Rest : Numbers
  Rest = take most (in_order (numbers_read read))

  -- one more is given
  pub record GivesLeft (held : List (Item Number)) (past : Numbers) (y : Item Number) : Type 0 where
    pub left : AreLeft most read held (y ∷ past)
    pub follows : NumberFollows past y

  pub give-left : (held held' : List (Item Number)) (past : Numbers) (y : Item Number) → ComesFirst y held'
      → IsPermutation held (y ∷ held') → AreLeft most read held past → GivesLeft held' past y
  give-left held held' past y first p h =
      let t = Rest in
      let falls = falling-take h.left t (falling-take most (in_order (numbers_read read))
      (order-falls read f.few f.numbered)) in
      let last = first-is-last (take h.left t) held y held' falls h.are_held p first in
      let k = left-handed h.left t last.0 y last.1 in
      let handed = ap (λ (xs : Numbers). y ∷ xs) h.handed
      ∙ ap (λ (xs : Numbers). xs ++ handed_on most (numbers_read read)) k.1 in record {
        left = record {
          left = length last.0;
          are_held = subst (λ (xs : Numbers). IsPermutation held' xs) k.0 last.2;
          handed = handed;
        };
        follows = follows-handed most read f (take (length last.0) t) past y
            (left-behind most (length last.0) (numbers_read read) (y ∷ past) handed);
      }

  -- none is left
  pub none-left : (held : List (Item Number)) (past : Numbers) → held ≡ [] → AreLeft most read held past
      → past ≡ all_handed most (numbers_read read)
  none-left held past e h =
      let none = permutes-none (take h.left Rest)
      (subst (λ (xs : List (Item Number)). IsPermutation xs (take h.left Rest)) e h.are_held) in
      ap (λ (xs : Numbers). xs ++ past) (sym none) ∙ left-behind most h.left (numbers_read read) past h.handed
