-- The last moment of each number among the frames of a side.
use Rattle.std.proofs.Common.{◌≡◌, ℕ, ◌+◌, ◌<◌, ◌≤◌, Bool, true, false, ◌&&◌, List, [], ◌∷◌, refl, sym, ap, ◌∙◌, arith}
use Rattle.std.proofs.Common.{Option, Some, None, get_or, length, replicate, ◌⊎◌, inl, inr}
use Rattle.std.specs.Prelude.{if◌then◌else◌, nat_eq, nat_le, slice_set, ◌||◌}
use Rattle.std.specs.List.{list_any}
use Rattle.std.proofs.lemmas.Bool.{eqb-true, eq-eqb, ne_eqb, leb-true, le-leb, cond-true, cond-false, cases_eq}
use Rattle.std.proofs.lemmas.List.{get_or-replicate, get_or-set_other, get_or_past}
use Rattle.std.proofs.lemmas.Grind.{get_or-set_at}
use Rattle.afdx_lawful.specs.Accepted.{ComeUpTo}
use Rattle.afdx_lawful.specs.Alone.{number_in}
use Rattle.afdx_lawful.specs.LastCame.{behind, last_time, stands_so}
use Rattle.afdx_lawful.specs.Sources.{Came}

-- ---- the table

pub none_last : (number : ℕ) → get_or (replicate 256 0) number 0 ≡ behind (last_time number [])
unfolding last_time
none_last number = by (cases number)
  where
    cases : (n : ℕ) → (n < 256) ⊎ (256 ≤ n)
    cases n = grind arith

    by : (number < 256) ⊎ (256 ≤ number) → get_or (replicate 256 0) number 0 ≡ behind None
    by (inl low) = get_or-replicate 256 number 0 0 low
    by (inr high) = get_or_past (replicate 256 0) number 0 high

pub more_last : (table : List ℕ) (past : List Came) (x : Came) (time n : ℕ) → n < length table →
    x.time ≡ time → number_in x ≡ n →
    ((number : ℕ) → get_or table number 0 ≡ behind (last_time number past)) → (number : ℕ) →
    get_or (slice_set table n (time + 1)) number 0 ≡ behind (last_time number (x ∷ past))
unfolding last_time
more_last table past x time n low time-is number-is are number = by (cases_eq number n)
  where
    by : (number ≡ n) ⊎ (number ≡ n → ⊥) →
        get_or (slice_set table n (time + 1)) number 0 ≡ behind (last_time number (x ∷ past))
    by (inl same) =
        get_or-set_at table n number (time + 1) 0 same low
        ∙ ap (λ t. t + 1) (sym time-is)
        ∙ ap behind (sym (cond-true (nat_eq (number_in x) number) (Some x.time) (last_time number past)
        (eq-eqb (number_in x) number (number-is ∙ sym same))))
    by (inr other) =
        get_or-set_other table n number (time + 1) 0 other
        ∙ are number
        ∙ ap behind (sym (cond-false (nat_eq (number_in x) number) (Some x.time) (last_time number past)
        (ne_eqb (number_in x) number (λ e. other (sym e ∙ number-is)))))

-- ---- frames since a moment

pub latest : (xs : List Came) (end number time : ℕ) → ComeUpTo end xs → last_time number xs ≡ Some time → time ≤ end
unfolding last_time
latest [] end number time up h = absurd (cc h)
latest (x ∷ past) end number time up h =
    by (nat_eq (number_in x) number) (latest past x.time number time up.1) h
  where
    by : (b : Bool) → (last_time number past ≡ Some time → time ≤ x.time) →
        (if b then Some x.time else last_time number past) ≡ Some time → time ≤ end
    by true rest h = let same : x.time ≡ time = cc h in omega (arith, same, up.0)
    by false rest h = omega (arith, rest h, up.0)

module _ (moment : ℕ) (later : Bool) (n : ℕ) where
  abbrev hit : Came → Bool
  hit x = nat_le moment x.time && stands_so later n (number_in x)

  pub record IsHit (xs : List Came) : Type 0 where
    number : ℕ
    time : ℕ
    last : last_time number xs ≡ Some time
    since : moment ≤ time
    stands : stands_so later n number ≡ true

  at_front : (x : Came) (past : List Came) → nat_le moment x.time ≡ true → stands_so later n (number_in x) ≡ true →
      IsHit (x ∷ past)
  unfolding last_time
  at_front x past since stands = record {
    number = number_in x;
    time = x.time;
    last = cond-true (nat_eq (number_in x) (number_in x)) (Some x.time) (last_time (number_in x) past)
        (eq-eqb (number_in x) (number_in x) refl);
    since = leb-true moment x.time since;
    stands = stands;
  }

  behind_front : (x : Came) (past : List Came) → ComeUpTo x.time past → IsHit past → IsHit (x ∷ past)
  unfolding last_time
  behind_front x past up h = by (nat_eq (number_in x) h.number) refl
    where
      by : (b : Bool) → nat_eq (number_in x) h.number ≡ b → IsHit (x ∷ past)
      by true e = record {
        number = h.number;
        time = x.time;
        last = cond-true (nat_eq (number_in x) h.number) (Some x.time) (last_time h.number past) e;
        since = omega (arith, h.since, latest past x.time h.number h.time up h.last);
        stands = h.stands;
      }
      by false e = record {
        number = h.number;
        time = h.time;
        last = cond-false (nat_eq (number_in x) h.number) (Some x.time) (last_time h.number past) e ∙ h.last;
        since = h.since;
        stands = h.stands;
      }

  pub any_hit : (xs : List Came) (end : ℕ) → ComeUpTo end xs → list_any hit xs ≡ true → IsHit xs
  any_hit [] end up h = absurd (cc h)
  any_hit (x ∷ past) end up h =
      by (nat_le moment x.time) (stands_so later n (number_in x)) refl refl (any_hit past x.time up.1) h
    where
      by : (a b : Bool) → nat_le moment x.time ≡ a → stands_so later n (number_in x) ≡ b →
          (list_any hit past ≡ true → IsHit past) → ((a && b) || list_any hit past) ≡ true → IsHit (x ∷ past)
      by true true e f rest h = at_front x past e f
      by true false e f rest h = behind_front x past up.1 (rest h)
      by false true e f rest h = behind_front x past up.1 (rest h)
      by false false e f rest h = behind_front x past up.1 (rest h)

  pub hit_any : (xs : List Came) (number time : ℕ) → last_time number xs ≡ Some time → moment ≤ time →
      stands_so later n number ≡ true → list_any hit xs ≡ true
  unfolding last_time
  hit_any [] number time last since stands = absurd (cc last)
  hit_any (x ∷ past) number time last since stands =
      by (nat_eq (number_in x) number) refl (λ l. hit_any past number time l since stands) last
    where
      front : number_in x ≡ number → x.time ≡ time → hit x ≡ true
      front e t = grind (arith, le-leb moment x.time (omega (arith, since, t)), stands, e)

      by : (b : Bool) → nat_eq (number_in x) number ≡ b →
          (last_time number past ≡ Some time → list_any hit past ≡ true) →
          (if b then Some x.time else last_time number past) ≡ Some time → (hit x || list_any hit past) ≡ true
      by true e rest h =
          let t : x.time ≡ time = cc h in
          ap (λ (b : Bool). b || list_any hit past) (front (eqb-true (number_in x) number e) t)
      by false e rest h = or_last (hit x) (rest h)
        where
          or_last : (a : Bool) → list_any hit past ≡ true → (a || list_any hit past) ≡ true
          or_last true h = refl
          or_last false h = h

  pub any_said : (table : List ℕ) (xs : List Came) (end : ℕ) (r : Bool) →
      ((number : ℕ) → get_or table number 0 ≡ behind (last_time number xs)) → ComeUpTo end xs →
      (r ≡ true → (k : ℕ) × (moment < get_or table k 0) × (stands_so later n k ≡ true)) →
      (r ≡ false → (k : ℕ) → moment < get_or table k 0 → stands_so later n k ≡ false) → r ≡ list_any hit xs
  any_said table xs end r are up some none = by r refl (list_any hit xs) refl
    where
      timed : (o : Option ℕ) → moment < behind o → (t : ℕ) × (o ≡ Some t) × (moment ≤ t)
      timed None h = absurd (omega (arith, h))
      timed (Some t) h = (t, refl, omega (arith, h))

      by : (a : Bool) → r ≡ a → (b : Bool) → list_any hit xs ≡ b → r ≡ list_any hit xs
      by true e true f = e ∙ sym f
      by false e false f = e ∙ sym f
      by true e false f =
          let k = some e in
          let t = timed (last_time k.0 xs) (omega (arith, k.1, are k.0)) in
          let any = hit_any xs k.0 t.0 t.1 t.2 k.2 in absurd (cc (any, f))
      by false e true f =
          let h = any_hit xs end up f in
          let at : get_or table h.number 0 ≡ h.time + 1 = are h.number ∙ ap behind h.last in
          let no = none e h.number (omega (arith, at, h.since)) in absurd (cc (no, h.stands))
