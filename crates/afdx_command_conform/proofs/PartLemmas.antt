-- The streams of a run that are judged, and what is counted of them together.
use Rattle.std.proofs.Common.{◌≡◌, ℕ, zero, suc, ◌+◌, ◌<◌, ◌≤◌, Bool, true, false, ◌||◌, ◌⊎◌, inl, inr, Option, List, [], ◌∷◌, length, reverse, refl, sym, ap, ◌∙◌, subst, arith, true≢false}
use Rattle.std.proofs.lemmas.Bool.{eq-eqb, eqb-true}
use Rattle.std.proofs.lemmas.Option.{slice_get-get_or}
use Rattle.std.specs.Prelude.{Some, None, get_or, nat_eq, slice_get, option_and_then, if◌then◌else◌}
use Rattle.std.specs.Option.{option_map_or}
use Rattle.std.specs.List.{AllByRecursion, list_any}
use Rattle.afdx_law_bounds.specs.Tables.{goes_to, port_of}
use Rattle.afdx_config.specs.Lawful.{IsLawfulSwitch, IsLinkUpTo, jitter_from_any}
use Rattle.afdx_config.specs.Reading.{system_at_port}
use Rattle.afdx_config.specs.Rows.{LinkRow, Rows, SystemRow, is_to}
use Rattle.afdx_frame.proofs.ListLemmas.{AllByRecursion-slice_get}
use Rattle.afdx_frame.specs.declared.link.Side.{Side}
use Rattle.afdx_frame.specs.declared.link.Side.TheVariants.{A, B}
use Rattle.afdx_input_runs.specs.Joining.{Frame}
use Rattle.afdx_command_conform.specs.Choices.{Choices}
use Rattle.afdx_command_conform.specs.Counting.{Counted, both_counted, counted_among, counted_at, counted_of, counted_to, none_counted, stream_counted}
use Rattle.afdx_command_conform.specs.Frames.{arrivals_of, frames_of, terms_at}
use Rattle.afdx_command_conform.specs.RunLaws.{AreSure}
use Rattle.afdx_command_conform.specs.Tapped.{is_judged, judged_to, link_to}
use Rattle.afdx_command_conform.proofs.KeyLemmas.{link-to, system-at}
use Rattle.afdx_command_conform.proofs.OneAnswerLemmas.{judged-link}
use Rattle.afdx_command_conform.proofs.OutletLemmas.{goes-there, port-is}

-- ---- one system among those to which a link goes

abbrev pub IsIn : ℕ → List ℕ → Type 0
IsIn s [] = ⊥
IsIn s (x ∷ to) = (x ≡ s) ⊎ IsIn s to

in-any : (s : ℕ) (to : List ℕ) → list_any (λ i. nat_eq i s) to ≡ true → IsIn s to
in-any s [] h = absurd (cc)
in-any s (x ∷ to) h = by (nat_eq x s) refl h (λ k. in-any s to k)
  where
    by : (b : Bool) → nat_eq x s ≡ b → (b || list_any (λ i. nat_eq i s) to) ≡ true
        → (list_any (λ i. nat_eq i s) to ≡ true → IsIn s to) → IsIn s (x ∷ to)
    by true e k more = inl (eqb-true x s e)
    by false e k more = inr (more k)

any-in : (s : ℕ) (to : List ℕ) → IsIn s to → list_any (λ i. nat_eq i s) to ≡ true
any-in s [] m = absurd m
any-in s (x ∷ to) (inl e) = ap (λ (b : Bool). b || list_any (λ i. nat_eq i s) to) (eq-eqb x s e)
any-in s (x ∷ to) (inr m) = or-true (nat_eq x s) (list_any (λ i. nat_eq i s) to) (any-in s to m)
  where
    or-true : (a b : Bool) → b ≡ true → (a || b) ≡ true
    or-true true b e = refl
    or-true false b e = e

all-in : (P : ℕ → Type 0) (s : ℕ) (to : List ℕ) → AllByRecursion P to → IsIn s to → P s
all-in P s [] h m = absurd m
all-in P s (x ∷ to) h (inl e) = subst P e h.0
all-in P s (x ∷ to) h (inr m) = all-in P s to h.1 m

or-parts : (a b : Bool) → (a || b) ≡ false → (a ≡ false) × (b ≡ false)
or-parts true b h = absurd (true≢false h)
or-parts false b h = (refl, h)

pub or-none : (a b : Bool) → a ≡ false → b ≡ false → (a || b) ≡ false
or-none a b e f = ap (λ (x : Bool). x || b) e ∙ f

-- ---- a sum of streams and its parts

-- a part of what is counted: no more is explained and open there, and it isn't unsure where the
-- whole isn't
pub record IsPart (n whole : Counted) : Type 0 where
  pub less : n.explained ≤ whole.explained
  pub open_less : n.waiting ≤ whole.waiting
  pub sure : whole.is_unsure ≡ false → n.is_unsure ≡ false

part-left : (a b : Counted) → IsPart a (both_counted a b)
part-left a b = record {
  less = omega arith;
  open_less = omega arith;
  sure =
      λ h. (or-parts a.is_unsure b.is_unsure h).0;
}

part-right : (n a b : Counted) → IsPart n b → IsPart n (both_counted a b)
part-right n a b p = record {
  less = (let le = p.less in omega (arith, le));
  open_less = (let le = p.open_less in omega (arith, le));
  sure = λ h. p.sure (or-parts a.is_unsure b.is_unsure h).1;
}

whole-part : (n : Counted) → IsPart n n
whole-part n = record { less = omega arith; open_less = omega arith; sure = λ h. h }

part-part : (n m whole : Counted) → IsPart n m → IsPart m whole → IsPart n whole
part-part n m whole p q = record {
  less = (let a = p.less in let b = q.less in omega (arith, a, b));
  open_less = (let a = p.open_less in let b = q.open_less in omega (arith, a, b));
  sure = λ h. p.sure (q.sure h);
}

some-part : (a b : ℕ) → 0 < a + b → (0 < a) ⊎ (0 < b)
some-part zero b h = inr (omega (arith, h))
some-part (suc a) b h = inl (omega arith)

module _ (t : Rows) (c : Choices) (until : ℕ) (frames : List Frame) where
  abbrev pub At : Side → LinkRow → ℕ → Counted
  At side l s = counted_at t c until frames side l (port_of t s)

  abbrev pub To : Side → LinkRow → List ℕ → Counted
  To side l to = counted_to t c until frames side l to

  abbrev pub Among : Side → List LinkRow → Counted
  Among side links = counted_among t c until frames side links

  abbrev pub Sum : Counted
  Sum = counted_of t c until frames

  to-part : (side : Side) (l : LinkRow) (s : ℕ) (to : List ℕ) → IsIn s to → IsPart (At side l s) (To side l to)
  unfolding counted_to
  to-part side l s [] m = absurd m
  to-part side l s (x ∷ to) (inl e) =
      subst (λ (n : ℕ). IsPart (At side l n) (both_counted (At side l x) (To side l to))) e
      (part-left (At side l x) (To side l to))
  to-part side l s (x ∷ to) (inr m) = part-right (At side l s) (At side l x) (To side l to) (to-part side l s to m)

  among-part : (side : Side) (links : List LinkRow) (place : ℕ) (l : LinkRow) → slice_get links place ≡ Some l
      → IsPart (To side l l.to) (Among side links)
  unfolding counted_among
  among-part side [] place l at = absurd (cc)
  among-part side (k ∷ links) zero l at =
      let same : k ≡ l = cc in
      subst (λ (m : LinkRow). IsPart (To side m m.to) (both_counted (To side k k.to) (Among side links))) same
      (part-left (To side k k.to) (Among side links))
  among-part side (k ∷ links) (suc place) l at =
      part-right (To side l l.to) (To side k k.to) (Among side links) (among-part side links place l at)

  side-part : (side : Side) → IsPart (Among side t.links) Sum
  side-part A = part-left (Among A t.links) (Among B t.links)
  side-part B = part-right (Among B t.links) (Among A t.links) (Among B t.links) (whole-part (Among B t.links))

  pub is-part : (side : Side) (place s : ℕ) (l : LinkRow) → slice_get t.links place ≡ Some l → IsIn s l.to
      → IsPart (At side l s) Sum
  is-part side place s l at m =
      part-part (At side l s) (To side l l.to) Sum (to-part side l s l.to m)
      (part-part (To side l l.to) (Among side t.links) Sum (among-part side t.links place l at) (side-part side))

  -- ---- where something is explained, there is a stream

  to-some : (side : Side) (l : LinkRow) (to : List ℕ) → 0 < (To side l to).explained
      → (s : ℕ) × IsIn s to × (0 < (At side l s).explained)
  unfolding counted_to
  to-some side l [] h = absurd (omega (arith, h))
  to-some side l (x ∷ to) h = by (some-part (At side l x).explained (To side l to).explained h)
      (λ k. to-some side l to k)
    where
      by : (0 < (At side l x).explained) ⊎ (0 < (To side l to).explained)
          → (0 < (To side l to).explained → (s : ℕ) × IsIn s to × (0 < (At side l s).explained))
          → (s : ℕ) × IsIn s (x ∷ to) × (0 < (At side l s).explained)
      by (inl k) more = (x, inl refl, k)
      by (inr k) more = let m = more k in (m.0, inr m.1, m.2)

  record SomeLink (side : Side) (links : List LinkRow) : Type 0 where
    pub place : ℕ
    pub link : LinkRow
    pub at : slice_get links place ≡ Some link
    pub some : 0 < (To side link link.to).explained

  among-some : (side : Side) (links : List LinkRow) → 0 < (Among side links).explained → SomeLink side links
  unfolding counted_among
  among-some side [] h = absurd (omega (arith, h))
  among-some side (k ∷ links) h = by (some-part (To side k k.to).explained (Among side links).explained h)
      (λ m. among-some side links m)
    where
      by : (0 < (To side k k.to).explained) ⊎ (0 < (Among side links).explained)
          → (0 < (Among side links).explained → SomeLink side links) → SomeLink side (k ∷ links)
      by (inl m) more = record { place = 0; link = k; at = refl; some = m }
      by (inr m) more =
          let r = more m in
          record { place = suc r.place; link = r.link; at = r.at; some = r.some }

  pub record SomeStream : Type 0 where
    pub side : Side
    pub place : ℕ
    pub link : LinkRow
    pub system : ℕ
    pub at : slice_get t.links place ≡ Some link
    pub goes : IsIn system link.to
    pub some : 0 < (At side link system).explained

  pub some-stream : 0 < Sum.explained → SomeStream
  some-stream h = by (some-part (Among A t.links).explained (Among B t.links).explained h)
    where
      on : (side : Side) → 0 < (Among side t.links).explained → SomeStream
      on side k =
          let l = among-some side t.links k in
          let s = to-some side l.link l.link.to l.some in
          record { side = side; place = l.place; link = l.link; system = s.0; at = l.at; goes = s.1; some = s.2 }

      by : (0 < (Among A t.links).explained) ⊎ (0 < (Among B t.links).explained) → SomeStream
      by (inl k) = on A k
      by (inr k) = on B k

  -- ---- where each stream is sure, all are

  to-sure : (side : Side) (l : LinkRow) (to : List ℕ) → ((s : ℕ) → IsIn s to → (At side l s).is_unsure ≡ false)
      → (To side l to).is_unsure ≡ false
  unfolding counted_to
  to-sure side l [] h = refl
  to-sure side l (x ∷ to) h =
      or-none (At side l x).is_unsure (To side l to).is_unsure (h x (inl refl)) (to-sure side l to (λ s m. h s (inr m)))

  among-sure : (side : Side) (links : List LinkRow)
      → ((place : ℕ) (l : LinkRow) → slice_get links place ≡ Some l → (To side l l.to).is_unsure ≡ false)
      → (Among side links).is_unsure ≡ false
  unfolding counted_among
  among-sure side [] h = refl
  among-sure side (k ∷ links) h =
      or-none (To side k k.to).is_unsure (Among side links).is_unsure (h 0 k refl)
      (among-sure side links (λ place l at. h (suc place) l at))

  all-sure : ((side : Side) (place s : ℕ) (l : LinkRow) → slice_get t.links place ≡ Some l → IsIn s l.to
      → (At side l s).is_unsure ≡ false)
      → Sum.is_unsure ≡ false
  all-sure h = or-none (Among A t.links).is_unsure (Among B t.links).is_unsure (on A) (on B)
    where
      on : (side : Side) → (Among side t.links).is_unsure ≡ false
      on side = among-sure side t.links (λ place l at. to-sure side l l.to (λ s m. h side place s l at m))

  -- ---- the streams that are judged

  pub record IsJudgedTo (side : Side) (place port : ℕ) (l : LinkRow) : Type 0 where
    pub at : slice_get t.links place ≡ Some l
    pub system : ℕ
    pub goes : IsIn system l.to
    pub port_is : port_of t system ≡ port
    pub judged : is_judged t c.sight side l port ≡ true

  judged-true : (side : Side) (place port : ℕ) (l : LinkRow) → judged_to t c.sight side place port ≡ Some l
      → is_judged t c.sight side l port ≡ true
  unfolding judged_to
  judged-true side place port l e = by (link_to t place port) e
    where
      test : (k : LinkRow) (b : Bool) → is_judged t c.sight side k port ≡ b → (if b then Some k else None) ≡ Some l
          → is_judged t c.sight side l port ≡ true
      test k true is h = let same : k ≡ l = cc in ap (λ (m : LinkRow). is_judged t c.sight side m port) (sym same) ∙ is
      test k false is h = absurd (cc)

      by : (o : Option LinkRow) → option_and_then (λ k. if is_judged t c.sight side k port then Some k else None) o
          ≡ Some l
          → is_judged t c.sight side l port ≡ true
      by None h = absurd (cc)
      by (Some k) h = test k (is_judged t c.sight side k port) refl h

  goes-in : (port : ℕ) (l : LinkRow) → goes_to t l port ≡ true → (s : ℕ) × IsIn s l.to × (port_of t s ≡ port)
  unfolding goes_to
  goes-in port l goes = by (system_at_port t.systems port) refl goes
    where
      by : (o : Option ℕ) → system_at_port t.systems port ≡ o → option_map_or (λ s. is_to s l) o false ≡ true
          → (s : ℕ) × IsIn s l.to × (port_of t s ≡ port)
      by None is h = absurd (true≢false (sym h))
      by (Some s) is h = let r = system-at t port s is in (s, in-any s l.to h, port-is t s r.0 r.1 ∙ r.2)

  pub judged-parts : (side : Side) (place port : ℕ) (l : LinkRow) → judged_to t c.sight side place port ≡ Some l
      → IsJudgedTo side place port l
  judged-parts side place port l is =
      let here = link-to t place port l (judged-link t c side place port l is) in
      let s = goes-in port l here.goes in
      record { at = here.at; system = s.0; goes = s.1; port_is = s.2; judged = judged-true side place port l is }

  abbrev no-row : SystemRow
  no-row = record { name = []; port = 0; id = 0; partition = 0; rate = 0 }

  pub to-judged : (side : Side) (place s : ℕ) (l : LinkRow) → IsLawfulSwitch t → slice_get t.links place ≡ Some l
      → IsIn s l.to
      → is_judged t c.sight side l (port_of t s) ≡ true → judged_to t c.sight side place (port_of t s) ≡ Some l
  unfolding judged_to
  to-judged side place s l lawful at m judged =
      let row = AllByRecursion-slice_get (IsLinkUpTo jitter_from_any (length t.systems)) t.links place l
      lawful.links.each at in
      let r = get_or t.systems s no-row in
      let sat = slice_get-get_or t.systems s no-row (all-in (λ i. i < length t.systems) s l.to row.to m) in
      let link = goes-there t place l s r lawful at sat (any-in s l.to m) in
      ap (λ (o : Option LinkRow). option_and_then (λ k. if is_judged t c.sight side k (port_of t s) then Some k
      else None) o) link
      ∙ ap (λ (b : Bool). if b then Some l else None) judged

  pub at-judged : (side : Side) (l : LinkRow) (port : ℕ) → is_judged t c.sight side l port ≡ true
      → counted_at t c until frames side l port ≡ stream_counted (terms_at t c until l port)
      (reverse (arrivals_of t c l.vl side frames)) (reverse (frames_of t c l.vl side port frames))
  unfolding counted_at
  at-judged side l port e =
      ap (λ (b : Bool). if b then stream_counted (terms_at t c until l port)
      (reverse (arrivals_of t c l.vl side frames))
      (reverse (frames_of t c l.vl side port frames)) else none_counted) e

  pub at-other : (side : Side) (l : LinkRow) (port : ℕ) → is_judged t c.sight side l port ≡ false
      → counted_at t c until frames side l port ≡ none_counted
  unfolding counted_at
  at-other side l port e =
      ap (λ (b : Bool). if b then stream_counted (terms_at t c until l port)
      (reverse (arrivals_of t c l.vl side frames))
      (reverse (frames_of t c l.vl side port frames)) else none_counted) e

  -- the whole is unsure exactly where a stream is
  pub sure-each : Sum.is_unsure ≡ false → AreSure t c until frames
  sure-each h side place port l is =
      let p = judged-parts side place port l is in
      sym (ap (λ (n : Counted). n.is_unsure) (at-judged side l port p.judged))
      ∙ ap (λ (q : ℕ). (counted_at t c until frames side l q).is_unsure) (sym p.port_is)
      ∙ (is-part side place p.system l p.at p.goes).sure h

  pub each-sure : IsLawfulSwitch t → AreSure t c until frames → Sum.is_unsure ≡ false
  each-sure lawful sure =
      all-sure (λ side place s l at m. by side place s l at m (is_judged t c.sight side l (port_of t s)) refl)
    where
      by : (side : Side) (place s : ℕ) (l : LinkRow) → slice_get t.links place ≡ Some l → IsIn s l.to
          → (b : Bool) → is_judged t c.sight side l (port_of t s) ≡ b → (At side l s).is_unsure ≡ false
      by side place s l at m true e =
          ap (λ (n : Counted). n.is_unsure) (at-judged side l (port_of t s) e)
          ∙ sure side place (port_of t s) l (to-judged side place s l lawful at m e)
      by side place s l at m false e = ap (λ (n : Counted). n.is_unsure) (at-other side l (port_of t s) e)
