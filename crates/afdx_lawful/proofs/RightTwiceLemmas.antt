-- Nothing is found of a right sender on two networks: the frames that wait are those whose places the
-- other side doesn't show.
use Rattle.std.proofs.Common.{◌≡◌, ◌⊎◌, inl, inr, ℕ, zero, suc, ◌+◌, ◌<◌, ◌≤◌, Bool, true, false, List, [], ◌∷◌, ◌++◌, refl}
use Rattle.std.proofs.Common.{sym, ap, ap₂, ◌∙◌, subst, arith, length, Some}
use Rattle.std.specs.Prelude.{◌&&◌, ◌||◌, not, nat_eq, nat_le, if◌then◌else◌, filter}
use Rattle.std.specs.List.{AllByRecursion, list_any}
use Rattle.std.proofs.lemmas.Bool.{and_from, and_parts, cases_eq, cases_lt, cond-true, cond-false, eq-eqb, eqb-true, false_from_ne_true}
use Rattle.std.proofs.lemmas.Bool.{le-leb, leb-true, ne_eqb}
use Rattle.std.proofs.lemmas.Slice.Eq.{bytes_eq-Decides}
use Rattle.afdx_frame.specs.Sides.{is_side}
use Rattle.afdx_frame.specs.declared.link.Side.{Side}
use Rattle.afdx_frame.specs.declared.link.Side.TheVariants.{A, B}
use Rattle.afdx_frame.proofs.SideLemmas.{is_side-same}
use Rattle.afdx_config.specs.Numbers.{after_steps}
use Rattle.afdx_lawful.specs.Accepted.{ComeUpTo}
use Rattle.afdx_lawful.specs.Alone.{number_in}
use Rattle.afdx_lawful.specs.Flaws.{common, is_copy, whole_of}
use Rattle.afdx_lawful.specs.Judged.{found_coming, found_with, too_late}
use Rattle.afdx_lawful.specs.Judged.{waiting_of}
use Rattle.afdx_lawful.specs.Partners.{Waiting, joined, may_pair, other}
use Rattle.afdx_lawful.specs.Partners.{partner, waiting, waits_now, without_first}
use Rattle.afdx_lawful.specs.Right.{Sent}
use Rattle.afdx_lawful.specs.RightTwice.{IsInRange, IsRightTwice}
use Rattle.afdx_lawful.specs.RightTwice.{came_from}
use Rattle.afdx_lawful.specs.Sources.{Came, Source, apart, hold, on_side, slip}
use Rattle.afdx_lawful.specs.declared.finding.SenderFinding.TheVariants.{Differs}
use Rattle.afdx_lawful.proofs.AcceptedLemmas.{come_on}
use Rattle.afdx_lawful.proofs.AccusedLemmas.{AreSilentBoth, all_whole, both_less, one_coming, quiet_found}
use Rattle.afdx_lawful.proofs.DistanceLemmas.{apart-held, copies-of, copy-near, far-behind, same_number}
use Rattle.afdx_lawful.proofs.RightLemmas.{seen_so}
use Rattle.afdx_lawful.proofs.StretchLemmas.{all-in, any-in, in-last, in-more, is_in, is_place, more-in, no-more-in}
use Rattle.afdx_lawful.proofs.StretchLemmas.{not_in, out-last, stretch, without-in}

-- ---- sides

pub other-other : (side : Side) → other (other side) ≡ side
other-other A = refl
other-other B = refl

own-side : (side : Side) → is_side side side ≡ true
own-side A = refl
own-side B = refl

not-other : (side : Side) → is_side (other side) side ≡ false
not-other A = refl
not-other B = refl

is-other : (a b : Side) → is_side a b ≡ false → a ≡ other b
is-other A A h = absurd (cc h)
is-other A B h = refl
is-other B A h = refl
is-other B B h = absurd (cc h)

-- ---- frames that wait, by their places

-- whether a frame can be the copy of one that waits
unfoldable fits : Source → Came → Came → Bool
fits s x y = nat_eq (number_in y) (number_in x) && nat_le x.time (y.time + hold s)

fits-is : (s : Source) (x : Came) (w : Waiting) → may_pair s x w ≡ fits s x w.frame
unfolding fits may_pair
fits-is s x w = refl

-- those that wait are the frames of these places
unfoldable pub AreAt : (ℕ → Came) → List ℕ → List Waiting → Type 0
AreAt frame [] [] = Unit {0}
AreAt frame [] (w ∷ ws) = ⊥
AreAt frame (p ∷ ps) [] = ⊥
AreAt frame (p ∷ ps) (w ∷ ws) = (w.frame ≡ frame p) × AreAt frame ps ws

at-snoc : (frame : ℕ → Came) (ps : List ℕ) (ws : List Waiting) (p : ℕ) (w : Waiting) → AreAt frame ps ws →
    w.frame ≡ frame p → AreAt frame (ps ++ p ∷ []) (ws ++ w ∷ [])
unfolding AreAt
at-snoc frame [] [] p w h e = (e, tt)
at-snoc frame [] (v ∷ ws) p w h e = absurd h
at-snoc frame (q ∷ ps) [] p w h e = absurd h
at-snoc frame (q ∷ ps) (v ∷ ws) p w h e = (h.0, at-snoc frame ps ws p w h.1 e)

module _ (s : Source) (x : Came) (frame : ℕ → Came) (k : ℕ) where
  -- of these places a frame can be the copy of the one at its own place alone
  unfoldable OneFits : List ℕ → Type 0
  OneFits ps = AllByRecursion (λ p. fits s x (frame p) ≡ nat_eq p k) ps

  pairs-at : (p : ℕ) (w : Waiting) → w.frame ≡ frame p → fits s x (frame p) ≡ nat_eq p k →
      may_pair s x w ≡ nat_eq p k
  pairs-at p w e h = fits-is s x w ∙ ap (fits s x) e ∙ h

  any-at : (ps : List ℕ) (ws : List Waiting) → AreAt frame ps ws → OneFits ps →
      list_any (may_pair s x) ws ≡ list_any (is_place k) ps
  unfolding AreAt OneFits
  any-at [] [] h one = refl
  any-at [] (w ∷ ws) h one = absurd h
  any-at (p ∷ ps) [] h one = absurd h
  any-at (p ∷ ps) (w ∷ ws) h one =
      ap₂ (λ (a b : Bool). a || b) (pairs-at p w h.0 one.0) (any-at ps ws h.1 one.1)

  without-at : (ps : List ℕ) (ws : List Waiting) → AreAt frame ps ws → OneFits ps →
      AreAt frame (without_first (is_place k) ps) (without_first (may_pair s x) ws)
  unfolding AreAt OneFits without_first
  without-at [] [] h one = tt
  without-at [] (w ∷ ws) h one = absurd h
  without-at (p ∷ ps) [] h one = absurd h
  without-at (p ∷ ps) (w ∷ ws) h one =
      by (nat_eq p k) (may_pair s x w) (pairs-at p w h.0 one.0) (without-at ps ws h.1 one.1)
    where
      by : (a b : Bool) → b ≡ a → AreAt frame (without_first (is_place k) ps) (without_first (may_pair s x) ws) →
          AreAt frame (if a then ps else p ∷ without_first (is_place k) ps)
          (if b then ws else w ∷ without_first (may_pair s x) ws)
      by true true e more = h.1
      by false false e more = (h.0, more)
      by true false e more = absurd (cc e)
      by false true e more = absurd (cc e)

  -- what is found of it by its copy
  with-at : (ps : List ℕ) (ws : List Waiting) → AreAt frame ps ws → OneFits ps →
      ((w : Waiting) → w.frame ≡ frame k → found_with s x (Some w) ≡ []) → found_with s x (partner s x ws) ≡ []
  unfolding AreAt OneFits
  with-at [] [] h one found = refl
  with-at [] (w ∷ ws) h one found = absurd h
  with-at (p ∷ ps) [] h one found = absurd h
  with-at (p ∷ ps) (w ∷ ws) h one found =
      by (may_pair s x w) (pairs-at p w h.0 one.0) (with-at ps ws h.1 one.1 found)
    where
      by : (b : Bool) → b ≡ nat_eq p k → found_with s x (partner s x ws) ≡ [] →
          found_with s x (if b then Some w else partner s x ws) ≡ []
      by true e more = found w (h.0 ∙ ap frame (eqb-true p k (sym e)))
      by false e more = more

pub all-at : (P : Came → Type 0) (frame : ℕ → Came) (ps : List ℕ) (ws : List Waiting) → AreAt frame ps ws →
    AllByRecursion (λ p. P (frame p)) ps → AllByRecursion (λ w. P w.frame) ws
unfolding AreAt
all-at P frame [] [] h all = tt
all-at P frame [] (w ∷ ws) h all = absurd h
all-at P frame (p ∷ ps) [] h all = absurd h
all-at P frame (p ∷ ps) (w ∷ ws) h all =
    (subst P (sym h.0) all.0, all-at P frame ps ws h.1 all.1)

-- ---- frames as they came

heads : {X : Type 0} {x y : X} {xs ys : List X} → x ∷ xs ≡ y ∷ ys → x ≡ y
heads h = cc

tails : {X : Type 0} {x y : X} {xs ys : List X} → x ∷ xs ≡ y ∷ ys → xs ≡ ys
tails h = cc

length-came : (sent : ℕ → Sent) (first n : ℕ) → length (came_from sent first n) ≡ n
length-came sent first zero = refl
length-came sent first (suc n) = ap suc (length-came sent first n)

came-by : (sent : ℕ → Sent) (first n t : ℕ) → ComeUpTo t (came_from sent first n) → (p : ℕ) → first ≤ p →
    p < first + n → (sent p).came.time ≤ t
came-by sent first zero t up p low high = absurd (omega (arith, low, high))
came-by sent first (suc n) t up p low high =
    by (cases_eq p (first + n)) (λ less. came-by sent first n (sent (first + n)).came.time up.1 p low less)
  where
    by : (p ≡ first + n) ⊎ (p ≡ first + n → ⊥) →
        (p < first + n → (sent p).came.time ≤ (sent (first + n)).came.time) → (sent p).came.time ≤ t
    by (inl same) more = let here = ap (λ q. (sent q).came.time) same in omega (arith, here, up.0)
    by (inr older) more = let le = more (omega (arith, high, older)) in omega (arith, le, up.0)

pub any-none : (test : Came → Bool) (sent : ℕ → Sent) (first n : ℕ) →
    ((p : ℕ) → first ≤ p → p < first + n → test (sent p).came ≡ false) →
    list_any test (came_from sent first n) ≡ false
any-none test sent first zero h = refl
any-none test sent first (suc n) h =
    ap₂ (λ (a b : Bool). a || b) (h (first + n) (omega arith) (omega arith))
    (any-none test sent first n (λ p low high. h p low (omega (arith, high))))

module _ (s : Source) (all : List Came) (range : IsInRange s) (r : IsRightTwice s all) where
  unfoldable pub frame : Side → ℕ → Came
  frame side p = (r.sent side p).came

  unfoldable pub seen : Side → List Came → ℕ
  seen side ys = length (on_side side ys)

  -- so many came by then of each side
  pub record IsSoFar (ys : List Came) : Type 0 where
    pub came : (side : Side) → on_side side ys ≡ came_from (r.sent side) (r.first side) (length (on_side side ys))
    pub within : (side : Side) → r.first side + length (on_side side ys) ≤ r.count

  long : (side : Side) → length (on_side side all) ≡ r.seen side
  long side = ap length (r.recorded side) ∙ length-came (r.sent side) (r.first side) (r.seen side)

  pub all-seen : (side : Side) → seen side all ≡ r.seen side
  unfolding seen
  all-seen side = long side

  pub all-so-far : IsSoFar all
  all-so-far = record {
    came = λ side. r.recorded side ∙ ap (came_from (r.sent side) (r.first side)) (sym (long side));
    within = λ side. let n = long side in let le = r.within side in omega (arith, n, le);
  }

  less-came : (x : Came) (b : Bool) (l : List Came) (sent : ℕ → Sent) (first : ℕ) →
      (if b then x ∷ l else l) ≡ came_from sent first (length (if b then x ∷ l else l)) →
      l ≡ came_from sent first (length l)
  less-came x true l sent first h = tails h
  less-came x false l sent first h = h

  less-within : (x : Came) (b : Bool) (l : List Came) (first count : ℕ) →
      first + length (if b then x ∷ l else l) ≤ count → first + length l ≤ count
  less-within x true l first count h = omega (arith, h)
  less-within x false l first count h = h

  so-far-before : (x : Came) (past : List Came) → IsSoFar (x ∷ past) → IsSoFar past
  so-far-before x past so = record {
    came = λ side. less-came x (is_side side x.side) (on_side side past) (r.sent side) (r.first side) (so.came side);
    within = λ side. less-within x (is_side side x.side) (on_side side past) (r.first side) r.count (so.within side);
  }

  own-on : (x : Came) (past : List Came) → on_side x.side (x ∷ past) ≡ x ∷ on_side x.side past
  own-on x past = cond-true (is_side x.side x.side) (x ∷ on_side x.side past) (on_side x.side past) (own-side x.side)

  other-on : (x : Came) (past : List Came) → on_side (other x.side) (x ∷ past) ≡ on_side (other x.side) past
  other-on x past =
      cond-false (is_side (other x.side) x.side) (x ∷ on_side (other x.side) past) (on_side (other x.side) past)
      (not-other x.side)

  -- ---- a frame and one of the other side

  pub number-at : (side : Side) (k : ℕ) → k < r.count → number_in (frame side k) ≡ after_steps k 0
  unfolding frame
  number-at side k less = (seen_so s (frame side k) (after_steps k 0) (r.lawful side k less).frame).numbered

  -- a frame isn't stamped later than its copy by more than it may be
  pub copy-by : (side : Side) (k : ℕ) → k < r.count →
      (frame side k).time ≤ (frame (other side) k).time + apart s (frame side k) + slip s
  unfolding frame
  copy-by side k less =
      subst
      (λ (t : Side). (frame t k).time ≤ (frame (other side) k).time + apart s (frame t k) + slip s)
      (other-other side) (copy-near s all range r (other side) k less)

  copy-held : (side : Side) (k : ℕ) → k < r.count → (frame side k).time ≤ (frame (other side) k).time + hold s
  copy-held side k less =
      let near = copy-by side k less in
      let held = apart-held s range (frame side k) in
      omega (arith, near, held)

  pub far-on : (side : Side) (k m : ℕ) → k + 210 ≤ m → m < r.count →
      (frame (other side) k).time + hold s < (frame side m).time
  unfolding frame
  far-on side k m far less = far-behind s all range r side k m far less

  pub far-other : (side : Side) (k m : ℕ) → k + 210 ≤ m → m < r.count →
      (frame side k).time + hold s < (frame (other side) m).time
  unfolding frame
  far-other side k m far less =
      subst (λ (t : Side). (frame t k).time + hold s < (frame (other side) m).time) (other-other side)
      (far-behind s all range r (other side) k m far less)

  apart-fit : (side : Side) (k m : ℕ) → k < r.count → m < r.count →
      (frame (other side) k).time ≤ (frame side m).time → (k ≡ m → ⊥) →
      fits s (frame side m) (frame (other side) k) ≡ false
  unfolding fits
  apart-fit side k m kc mc le other-place =
      false_from_ne_true (fits s (frame side m) (frame (other side) k)) (λ h. by (parts h) (cases_lt k m))
    where
      parts : fits s (frame side m) (frame (other side) k) ≡ true →
          (number_in (frame (other side) k) ≡ number_in (frame side m))
          × ((frame side m).time ≤ (frame (other side) k).time + hold s)
      parts h =
          let both = and_parts (nat_eq (number_in (frame (other side) k)) (number_in (frame side m)))
          (nat_le (frame side m).time ((frame (other side) k).time + hold s)) h in
          (eqb-true _ _ both.0, leb-true _ _ both.1)

      by : (number_in (frame (other side) k) ≡ number_in (frame side m))
          × ((frame side m).time ≤ (frame (other side) k).time + hold s) → (k < m) ⊎ (m ≤ k) → ⊥
      by both (inl less) =
          let same : after_steps k 0 ≡ after_steps m 0 =
          sym (number-at (other side) k kc) ∙ both.0 ∙ number-at side m mc in
          let away = same_number k m less same in
          let far = far-on side k m (omega (arith, away)) mc in
          omega (arith, far, both.1)
      by both (inr more) =
          let less : m < k = by-other (cases_eq k m) in
          let same : after_steps m 0 ≡ after_steps k 0 =
          sym (number-at side m mc) ∙ sym both.0 ∙ number-at (other side) k kc in
          let away = same_number m k less same in
          let far = far-other side m k (omega (arith, away)) kc in
          omega (arith, far, le)
        where
          by-other : (k ≡ m) ⊎ (k ≡ m → ⊥) → m < k
          by-other (inl e) = absurd (other-place e)
          by-other (inr e) = omega (arith, more, e)

  same-fit : (side : Side) (k : ℕ) → k < r.count → fits s (frame side k) (frame (other side) k) ≡ true
  unfolding fits
  same-fit side k less =
      and_from (nat_eq (number_in (frame (other side) k)) (number_in (frame side k)))
      (nat_le (frame side k).time ((frame (other side) k).time + hold s))
      (eq-eqb _ _ (number-at (other side) k less ∙ sym (number-at side k less)))
      (le-leb _ _ (copy-held side k less))

  fit-place : (side : Side) (k m : ℕ) → k < r.count → m < r.count →
      (frame (other side) k).time ≤ (frame side m).time →
      fits s (frame side m) (frame (other side) k) ≡ nat_eq k m
  fit-place side k m kc mc le = by (cases_eq k m)
    where
      by : (k ≡ m) ⊎ (k ≡ m → ⊥) → fits s (frame side m) (frame (other side) k) ≡ nat_eq k m
      by (inl e) =
          subst (λ (n : ℕ). fits s (frame side n) (frame (other side) k) ≡ true) e (same-fit side k kc)
          ∙ sym (eq-eqb k m e)
      by (inr e) = apart-fit side k m kc mc le e ∙ sym (ne_eqb k m e)

  -- ---- those that wait

  -- the places of a side that the other side doesn't show
  abbrev pub places : Side → Side → List Came → List ℕ
  places side opposite ys =
      not_in (r.first opposite) (seen opposite ys) (stretch (r.first side) (seen side ys))

  unfoldable pub AreWaiting : List Came → Type 0
  AreWaiting ys = (side : Side) → AreAt (frame side) (places side (other side) ys) (waiting s side ys)

  module _ (x : Came) (past : List Came) (so : IsSoFar (x ∷ past)) (up : ComeUpTo x.time past)
      (waits : AreWaiting past) where
    abbrev own : Side
    own = x.side

    abbrev far_side : Side
    far_side = other x.side

    abbrev place : ℕ
    place = r.first x.side + seen x.side past

    its-place : place < r.count
    unfolding seen
    its-place =
        let e : length (on_side x.side (x ∷ past)) ≡ suc (length (on_side x.side past)) = ap length (own-on x past) in
        let le = so.within x.side in
        omega (arith, e, le)

    is : x ≡ frame x.side place
    unfolding seen frame
    is = heads (subst (λ (l : List Came). l ≡ came_from (r.sent x.side) (r.first x.side) (length l)) (own-on x past)
        (so.came x.side))

    before : (p : ℕ) → r.first far_side ≤ p → p < r.first far_side + seen far_side past →
        (frame far_side p).time ≤ x.time
    unfolding seen frame
    before p low high =
        came-by (r.sent far_side) (r.first far_side) (length (on_side far_side past)) x.time
        (subst (λ (l : List Came). ComeUpTo x.time l) ((so-far-before x past so).came far_side)
        (come_on s far_side x.time past up)) p low high

    shown : (p : ℕ) → p < r.first far_side + seen far_side past → p < r.count
    unfolding seen
    shown p high = let le = (so-far-before x past so).within far_side in omega (arith, le, high)

    one-fits : OneFits s x (frame far_side) place (places far_side own past)
    unfolding OneFits
    one-fits =
        all-in (λ p. fits s x (frame far_side p) ≡ nat_eq p place)
        (λ p. not (is_in (r.first own) (seen own past) p)) (r.first far_side) (seen far_side past)
        (λ p low high e. subst (λ (y : Came). fits s y (frame far_side p) ≡ nat_eq p place) (sym is)
        (fit-place own p place (shown p high) its-place
        (subst (λ (y : Came). (frame far_side p).time ≤ y.time) is (before p low high))))

    waits-there : AreAt (frame far_side) (places far_side own past) (waiting s far_side past)
    unfolding AreWaiting
    waits-there =
        subst (λ (t : Side). AreAt (frame far_side) (places far_side t past) (waiting s far_side past))
        (other-other own) (waits far_side)

    -- its copy came exactly if its place is shown there
    copied : list_any (may_pair s x) (waiting s far_side past) ≡ is_in (r.first far_side) (seen far_side past) place
    copied =
        any-at s x (frame far_side) place (places far_side own past) (waiting s far_side past) waits-there one-fits
        ∙ any-in (λ p. not (is_in (r.first own) (seen own past) p)) place (r.first far_side) (seen far_side past)
        (ap not (out-last (r.first own) (seen own past)))

    own-seen : seen own (x ∷ past) ≡ suc (seen own past)
    unfolding seen
    own-seen = ap length (own-on x past)

    other-seen : seen far_side (x ∷ past) ≡ seen far_side past
    unfolding seen
    other-seen = ap length (other-on x past)

    own-then : AreAt (frame own) (places own far_side (x ∷ past)) (waiting s own (x ∷ past))
    unfolding AreWaiting waiting
    own-then =
        subst (λ (ws : List Waiting). AreAt (frame own) (places own far_side (x ∷ past)) ws)
        (sym (cond-true (is_side own x.side) (joined s past x (waiting s own past) (waiting s far_side past))
        (without_first (may_pair s x) (waiting s own past)) (own-side own)))
        (subst (λ (n : ℕ). AreAt (frame own)
        (not_in (r.first far_side) n (stretch (r.first own) (seen own (x ∷ past))))
        (joined s past x (waiting s own past) (waiting s far_side past))) (sym other-seen)
        (subst (λ (n : ℕ). AreAt (frame own)
        (not_in (r.first far_side) (seen far_side past) (stretch (r.first own) n))
        (joined s past x (waiting s own past) (waiting s far_side past))) (sym own-seen)
        (by (is_in (r.first far_side) (seen far_side past) place) refl copied)))
      where
        by : (b : Bool) → is_in (r.first far_side) (seen far_side past) place ≡ b →
            list_any (may_pair s x) (waiting s far_side past)
            ≡ is_in (r.first far_side) (seen far_side past) place →
            AreAt (frame own)
            (filter (λ p. not (is_in (r.first far_side) (seen far_side past) p))
            (stretch (r.first own) (suc (seen own past))))
            (if list_any (may_pair s x) (waiting s far_side past) then waiting s own past
            else waiting s own past ++ waits_now s past x ∷ [])
        by true e c =
            subst (λ (ps : List ℕ). AreAt (frame own) ps
            (if list_any (may_pair s x) (waiting s far_side past) then waiting s own past
            else waiting s own past ++ waits_now s past x ∷ []))
            (sym (no-more-in (λ p. not (is_in (r.first far_side) (seen far_side past) p)) (r.first own)
            (seen own past) (ap not e)))
            (subst (λ (ws : List Waiting). AreAt (frame own) (places own far_side past) ws)
            (sym (cond-true (list_any (may_pair s x) (waiting s far_side past)) (waiting s own past)
            (waiting s own past ++ waits_now s past x ∷ []) (c ∙ e))) (waits own))
        by false e c =
            subst (λ (ps : List ℕ). AreAt (frame own) ps
            (if list_any (may_pair s x) (waiting s far_side past) then waiting s own past
            else waiting s own past ++ waits_now s past x ∷ []))
            (sym (more-in (λ p. not (is_in (r.first far_side) (seen far_side past) p)) (r.first own)
            (seen own past) (ap not e)))
            (subst (λ (ws : List Waiting). AreAt (frame own) (places own far_side past ++ place ∷ []) ws)
            (sym (cond-false (list_any (may_pair s x) (waiting s far_side past)) (waiting s own past)
            (waiting s own past ++ waits_now s past x ∷ []) (c ∙ e)))
            (at-snoc (frame own) (places own far_side past) (waiting s own past) place (waits_now s past x)
            (waits own) is))

    other-then : AreAt (frame far_side) (places far_side own (x ∷ past)) (waiting s far_side (x ∷ past))
    unfolding waiting
    other-then =
        subst (λ (ws : List Waiting). AreAt (frame far_side) (places far_side own (x ∷ past)) ws)
        (sym (cond-false (is_side far_side x.side)
        (joined s past x (waiting s far_side past) (waiting s (other far_side) past))
        (without_first (may_pair s x) (waiting s far_side past)) (not-other own)))
        (subst (λ (n : ℕ). AreAt (frame far_side)
        (not_in (r.first own) n (stretch (r.first far_side) (seen far_side (x ∷ past))))
        (without_first (may_pair s x) (waiting s far_side past))) (sym own-seen)
        (subst (λ (n : ℕ). AreAt (frame far_side)
        (not_in (r.first own) (suc (seen own past)) (stretch (r.first far_side) n))
        (without_first (may_pair s x) (waiting s far_side past))) (sym other-seen)
        (subst (λ (ps : List ℕ). AreAt (frame far_side) ps (without_first (may_pair s x) (waiting s far_side past)))
        (sym (without-in (λ p. not (is_in (r.first own) (seen own past) p))
        (λ p. not (is_in (r.first own) (suc (seen own past)) p)) place
        (ap not (out-last (r.first own) (seen own past))) (ap not (in-last (r.first own) (seen own past)))
        (λ p e. ap not (in-more (r.first own) (seen own past) p e)) (r.first far_side) (seen far_side past)))
        (without-at s x (frame far_side) place (places far_side own past) (waiting s far_side past) waits-there
        one-fits))))

    waits-then : AreWaiting (x ∷ past)
    unfolding AreWaiting
    waits-then side = by (is_side side x.side) refl
      where
        by : (b : Bool) → is_side side x.side ≡ b →
            AreAt (frame side) (places side (other side) (x ∷ past)) (waiting s side (x ∷ past))
        by true e =
            subst (λ (t : Side). AreAt (frame t) (places t (other t) (x ∷ past)) (waiting s t (x ∷ past)))
            (sym (is_side-same side x.side e)) own-then
        by false e =
            subst (λ (t : Side). AreAt (frame t) (places t (other t) (x ∷ past)) (waiting s t (x ∷ past)))
            (sym (is-other side x.side e))
            (subst (λ (t : Side). AreAt (frame far_side) (places far_side t (x ∷ past)) (waiting s far_side (x ∷ past)))
            (sym (other-other own)) other-then)

    -- nothing is found of it by its copy
    copy-found : (w : Waiting) → w.frame ≡ frame far_side place → found_with s x (Some w) ≡ []
    unfolding is_copy frame
    copy-found w e =
        let same : common x.bytes ≡ common w.frame.bytes =
        ap (λ (y : Came). common y.bytes) is ∙ (copies-of s all range r own place its-place).same
        ∙ sym (ap (λ (y : Came). common y.bytes) e) in
        let near : x.time ≤ w.frame.time + apart s x + slip s =
        subst (λ (y : Came). y.time ≤ w.frame.time + apart s y + slip s) (sym is)
        (subst (λ (y : Came). (frame own place).time ≤ y.time + apart s (frame own place) + slip s) (sym e)
        (copy-by own place its-place)) in
        cond-true (is_copy x w.frame) (too_late s x w.frame) (Differs x.line ∷ [])
        ((bytes_eq-Decides (common x.bytes) (common w.frame.bytes)).1 same)
        ∙ cond-true (nat_le x.time (w.frame.time + apart s x + slip s)) [] _ (le-leb _ _ near)

    with-found : found_with s x (partner s x (waiting s far_side past)) ≡ []
    with-found =
        with-at s x (frame far_side) place (places far_side own past) (waiting s far_side past) waits-there one-fits
        copy-found

  none-wait : AreWaiting []
  unfolding AreWaiting AreAt waiting stretch seen
  none-wait side = tt

  pub all-wait : (ys : List Came) (t : ℕ) → IsSoFar ys → ComeUpTo t ys → AreWaiting ys
  all-wait [] t so up = none-wait
  all-wait (x ∷ past) t so up =
      waits-then x past so up.1 (all-wait past x.time (so-far-before x past so) up.1)

  pub waits-at : (ys : List Came) → AreWaiting ys → (side : Side) →
      AreAt (frame side) (places side (other side) ys) (waiting s side ys)
  unfolding AreWaiting
  waits-at ys h = h

  -- ---- when a frame comes

  module _ (paired : s.is_paired ≡ true) where
    pub waits-of : (side : Side) (ys : List Came) → AreSilentBoth s ys → waiting_of s side ys ≡ waiting s side ys
    waits-of side ys silent =
        cond-true s.is_paired (waiting s side (whole_of ys)) [] paired ∙ ap (waiting s side) (all_whole s ys silent)

    pub coming : (ys : List Came) (t : ℕ) → IsSoFar ys → ComeUpTo t ys → AreSilentBoth s ys → found_coming s ys ≡ []
    unfolding found_coming
    coming [] t so up silent = refl
    coming (x ∷ past) t so up silent =
        let before = so-far-before x past so in
        let quiet = both_less s x past silent in
        one_coming s x past
        (quiet_found s x past silent
        (ap (λ (ws : List Waiting). found_with s x (partner s x ws)) (waits-of (other x.side) past quiet)
        ∙ with-found x past so up.1 (all-wait past x.time before up.1)))
        (coming past x.time before up.1 quiet)
