-- What one more frame gives to each key.
use Rattle.std.proofs.Common.{◌≡◌, ℕ, ◌≤◌, inl, inr, Bool, true, false, ◌&&◌, ◌||◌, List, [], ◌∷◌, map, get_or, reverse, refl, sym, ap, ◌∙◌, subst, true≢false}
use Rattle.std.proofs.lemmas.Bool.{cases_eq, eqb-true, eq-eqb}
use Rattle.std.proofs.lemmas.List.{reverse-append}
use Rattle.std.proofs.lemmas.List.Quantifiers.{position-Some}
use Rattle.std.proofs.lemmas.Option.{same_Some, slice_get-get_or}
use Rattle.std.specs.Prelude.{Option, Some, None, cond, filter, nat_eq, option_and_then, slice_get}
use Rattle.std.specs.List.{list_any, AllByRecursion}
use Rattle.std.specs.Option.{option_map_or}
use Rattle.afdx_law_bounds.specs.Tables.{goes_to, port_of}
use Rattle.afdx_config.proofs.LookUpLemmas.{each_row-found}
use Rattle.afdx_config.specs.Lawful.{IsLawfulSwitch}
use Rattle.afdx_config.specs.Reading.{link_of, system_at_port}
use Rattle.afdx_config.specs.Rows.{LinkRow, Rows, example_link, is_to}
use Rattle.afdx_frame.proofs.ListLemmas.{AllByRecursion-push}
use Rattle.afdx_frame.specs.Layout.{link_named_by}
use Rattle.afdx_frame.specs.declared.link.VlId.{VlId}
use Rattle.afdx_police.specs.Arrival.{names}
use Rattle.afdx_input_runs.specs.Joining.{Frame}
use Rattle.afdx_command_conform.specs.Choices.{Choices, counted, counts}
use Rattle.afdx_command_conform.specs.Frames.{gone_of, is_arrival_of, is_stranger, left_at, place_named}
use Rattle.afdx_command_conform.specs.Keeping.{AreKept, Given, KeyStands, given_by, given_of, given_to, given_with, is_known, nothing_given, slot_at}
use Rattle.afdx_command_conform.specs.Keys.{is_link}
use Rattle.afdx_command_conform.specs.Lines.{Due, of_key, stranger_due}
use Rattle.afdx_command_conform.specs.Slots.{AreFalling}
use Rattle.afdx_command_conform.specs.Sight.{Sight}
use Rattle.afdx_command_conform.specs.Tapped.{judged_to}
use Rattle.afdx_command_conform.specs.declared.kept.KeptByKey.{KeptByKey}
use Rattle.afdx_command_conform.specs.declared.key.Key.{Key}
use Rattle.afdx_command_conform.proofs.KeyLemmas.{system-at}
use Rattle.afdx_command_conform.proofs.OutletLemmas.{port-is}

-- ---- what is kept, of the same

pub kept-same : (t : Rows) (c : Choices) (until : ℕ) (ended : Option ℕ) (time : ℕ) (given to : Key → Given)
    (lines : List Due)
    (kept : KeptByKey)
    → ((k : Key) → is_known t k ≡ true → to k ≡ given k)
    → ((k : Key) → AreFalling (to k).strange)
    → AreKept t c until ended time given lines kept → AreKept t c until ended time to lines kept
kept-same t c until ended time given to lines kept same falling are = record {
  stand = λ k known. subst (λ g. KeyStands t c until ended time k g (of_key k lines) (slot_at kept.slots.items k))
      (sym (same k known)) (are.stand k known);
  none = are.none;
  count = are.count;
  on_agenda = are.on_agenda;
  known = are.known;
  behind = are.behind;
  in_order = are.in_order;
  early = are.early;
  falling = falling;
}

-- ---- the frames that count

abbrev pub linked : Key → List Frame → Option LinkRow → Given
linked k fs None = given_with [] [] []
linked k fs (Some l) = given_with (reverse (map (λ x. x.arrival) (filter (is_arrival_of l.vl k.side) fs)))
    (reverse (map (λ x. gone_of x.arrival) (filter (λ x. left_at k.side k.port x && names l.vl x.arrival.bytes) fs))) []

-- what these frames give
abbrev pub given_from : Rows → Sight → Key → List Frame → Option ℕ → Given
given_from t sight k fs None = given_with [] []
    (map (stranger_due t k)
    (map (λ x. x.arrival) (filter (λ x. left_at k.side k.port x && is_stranger t sight x.arrival) fs)))
given_from t sight k fs (Some place) = linked k fs (judged_to t sight k.side place k.port)

pub given-from : (t : Rows) (c : Choices) (frames : List Frame) (k : Key)
    → given_of t c frames k ≡ given_from t c.sight k (counted t c frames) k.link
unfolding given_of
given-from t c frames k = by k.link
  where
    by-link : (o : Option LinkRow) → given_to t c k frames o ≡ linked k (counted t c frames) o
    by-link None = refl
    by-link (Some l) = refl

    by : (o : Option ℕ) → given_by t c frames k o ≡ given_from t c.sight k (counted t c frames) o
    by None = refl
    by (Some place) = by-link (judged_to t c.sight k.side place k.port)

pub counted-more : (t : Rows) (c : Choices) (x : Frame) (frames : List Frame) → counts t c x ≡ true
    → counted t c (x ∷ frames) ≡ x ∷ counted t c frames
counted-more t c x frames e = ap (λ b. cond b (x ∷ counted t c frames) (counted t c frames)) e

pub counted-less : (t : Rows) (c : Choices) (x : Frame) (frames : List Frame) → counts t c x ≡ false
    → counted t c (x ∷ frames) ≡ counted t c frames
counted-less t c x frames e = ap (λ b. cond b (x ∷ counted t c frames) (counted t c frames)) e

-- ---- which link is named

not-eq : (a b : ℕ) → (a ≡ b → ⊥) → nat_eq a b ≡ false
not-eq a b other = by (nat_eq a b) refl
  where
    by : (v : Bool) → nat_eq a b ≡ v → nat_eq a b ≡ false
    by false e = e
    by true e = absurd (other (eqb-true a b e))

-- where a place is looked at of which it isn't said yet that a link stands there
abbrev pub blank : LinkRow
blank = example_link

place-other : (t : Rows) (place : ℕ) (l : LinkRow) (vl : ℕ) (o : Option ℕ) → slice_get t.links place ≡ Some l
    → (vl ≡ l.vl → ⊥) → link_of t.links vl ≡ o → is_link o (Some place) ≡ false
unfolding link_of
place-other t place l vl None at other is = refl
place-other t place l vl (Some q) at other is =
    let passes = position-Some (λ (r : LinkRow). nat_eq vl r.vl) t.links q blank is in
    not-eq q place (λ same. other (eqb-true vl (get_or t.links q blank).vl passes.1
    ∙ ap (λ (r : LinkRow). r.vl) (same_Some (get_or t.links q blank) l
    (sym (slice_get-get_or t.links q blank passes.0) ∙ ap (λ i. slice_get t.links i) same ∙ at))))

-- a link is named exactly where its place is
pub named-is : (t : Rows) (place : ℕ) (l : LinkRow) (bytes : List ℕ) → IsLawfulSwitch t → slice_get t.links place
    ≡ Some l
    → names l.vl bytes ≡ is_link (place_named t bytes) (Some place)
unfolding names place_named
named-is t place l bytes lawful at = by (link_named_by bytes)
  where
    by : (o : Option VlId) → option_map_or (λ named. nat_eq named.0 l.vl) o false
        ≡ is_link (option_and_then (λ v. link_of t.links v.0) o) (Some place)
    by None = refl
    by (Some v) = elim (cases_eq v.0 l.vl) [
      | inl same ↦ eq-eqb v.0 l.vl same
          ∙ sym (ap (λ o. is_link o (Some place)) (ap (λ n. link_of t.links n) same
          ∙ (each_row-found t lawful).by_vl place l at)
          ∙ eq-eqb place place refl)
      | inr other ↦ not-eq v.0 l.vl other ∙ sym (place-other t place l v.0 (link_of t.links v.0) at other refl)
    ]

-- the ports of those to which a link goes
or-left : (a b : Bool) → a ≡ true → (a || b) ≡ true
or-left a b e = ap (λ v. v || b) e

or-right : (a b : Bool) → b ≡ true → (a || b) ≡ true
or-right true b e = refl
or-right false b e = e

any-mapped : (f : ℕ → ℕ) (i p : ℕ) (to : List ℕ) → f i ≡ p → list_any (λ j. nat_eq j i) to ≡ true
    → list_any (λ q. nat_eq q p) (map f to) ≡ true
any-mapped f i p [] is h = absurd (true≢false (sym h))
any-mapped f i p (j ∷ to) is h = by (nat_eq j i) refl h (λ h'. any-mapped f i p to is h')
  where
    by : (b : Bool) → nat_eq j i ≡ b → (b || list_any (λ j'. nat_eq j' i) to) ≡ true
        → (list_any (λ j'. nat_eq j' i) to ≡ true → list_any (λ q. nat_eq q p) (map f to) ≡ true)
        → (nat_eq (f j) p || list_any (λ q. nat_eq q p) (map f to)) ≡ true
    by true e h' more = or-left (nat_eq (f j) p) (list_any (λ q. nat_eq q p) (map f to))
        (eq-eqb (f j) p (ap f (eqb-true j i e) ∙ is))
    by false e h' more = or-right (nat_eq (f j) p) (list_any (λ q. nat_eq q p) (map f to)) (more h')

pub port-among : (t : Rows) (l : LinkRow) (port : ℕ) → goes_to t l port ≡ true
    → list_any (λ q. nat_eq q port) (map (port_of t) l.to) ≡ true
unfolding goes_to
port-among t l port goes = by (system_at_port t.systems port) refl goes
  where
    by : (o : Option ℕ) → system_at_port t.systems port ≡ o → option_map_or (λ system. is_to system l) o false ≡ true
        → list_any (λ q. nat_eq q port) (map (port_of t) l.to) ≡ true
    by None found h = absurd (true≢false (sym h))
    by (Some system) found h =
        let at = system-at t port system found in
        any-mapped (port_of t) system port l.to (port-is t system at.0 at.1 ∙ at.2) h

-- ---- times

pub all-filter : {X : Type 0} (P : X → Type 0) (p : X → Bool) (xs : List X) → AllByRecursion P xs
    → AllByRecursion P (filter p xs)
all-filter P p [] all = tt
all-filter P p (x ∷ xs) all = by (p x) (all-filter P p xs all.1)
  where
    by : (b : Bool) → AllByRecursion P (filter p xs) → AllByRecursion P (cond b (x ∷ filter p xs) (filter p xs))
    by true more = (all.0, more)
    by false more = more

all-map : {X Y : Type 0} (P : Y → Type 0) (f : X → Y) (xs : List X) → AllByRecursion (λ x. P (f x)) xs
    → AllByRecursion P (map f xs)
all-map P f [] all = tt
all-map P f (x ∷ xs) all = (all.0, all-map P f xs all.1)

all-reverse : {X : Type 0} (P : X → Type 0) (xs : List X) → AllByRecursion P xs → AllByRecursion P (reverse xs)
all-reverse P [] all = tt
all-reverse P (x ∷ xs) all = subst (λ l. AllByRecursion P l) (sym (reverse-append (x ∷ []) xs))
    (AllByRecursion-push P (reverse xs) x (all-reverse P xs all.1) all.0)

module _ (t : Rows) (c : Choices) (frames : List Frame) (time : ℕ)
    (all : AllByRecursion (λ x. x.arrival.time ≤ time) (counted t c frames)) (k : Key) where
  pub came-times : AllByRecursion (λ x. x.time ≤ time) (given_of t c frames k).came
  came-times = subst (λ g. AllByRecursion (λ x. x.time ≤ time) g.came) (sym (given-from t c frames k)) (by k.link)
    where
      by-link : (o : Option LinkRow) → AllByRecursion (λ x. x.time ≤ time) (linked k (counted t c frames) o).came
      by-link None = tt
      by-link (Some l) = all-reverse (λ x. x.time ≤ time)
          (map (λ x. x.arrival) (filter (is_arrival_of l.vl k.side) (counted t c frames)))
          (all-map (λ x. x.time ≤ time) (λ (x : Frame). x.arrival)
          (filter (is_arrival_of l.vl k.side) (counted t c frames))
          (all-filter (λ x. x.arrival.time ≤ time) (is_arrival_of l.vl k.side) (counted t c frames) all))

      by : (o : Option ℕ) → AllByRecursion (λ x. x.time ≤ time) (given_from t c.sight k (counted t c frames) o).came
      by None = tt
      by (Some place) = by-link (judged_to t c.sight k.side place k.port)

  pub left-times : AllByRecursion (λ y. y.time ≤ time) (given_of t c frames k).left
  left-times = subst (λ g. AllByRecursion (λ y. y.time ≤ time) g.left) (sym (given-from t c frames k)) (by k.link)
    where
      by-link : (o : Option LinkRow) → AllByRecursion (λ y. y.time ≤ time) (linked k (counted t c frames) o).left
      by-link None = tt
      by-link (Some l) = all-reverse (λ y. y.time ≤ time)
          (map (λ x. gone_of x.arrival) (filter (λ x. left_at k.side k.port x && names l.vl x.arrival.bytes)
          (counted t c frames)))
          (all-map (λ y. y.time ≤ time) (λ (x : Frame). gone_of x.arrival)
          (filter (λ x. left_at k.side k.port x && names l.vl x.arrival.bytes) (counted t c frames))
          (all-filter (λ x. x.arrival.time ≤ time) (λ x. left_at k.side k.port x && names l.vl x.arrival.bytes)
          (counted t c frames) all))

      by : (o : Option ℕ) → AllByRecursion (λ y. y.time ≤ time) (given_from t c.sight k (counted t c frames) o).left
      by None = tt
      by (Some place) = by-link (judged_to t c.sight k.side place k.port)

  pub strange-times : AllByRecursion (λ d. d.moment ≤ time) (given_of t c frames k).strange
  strange-times = subst (λ g. AllByRecursion (λ d. d.moment ≤ time) g.strange) (sym (given-from t c frames k))
      (by k.link)
    where
      by-link : (o : Option LinkRow) → AllByRecursion (λ d. d.moment ≤ time) (linked k (counted t c frames) o).strange
      by-link None = tt
      by-link (Some l) = tt

      by : (o : Option ℕ) → AllByRecursion (λ d. d.moment ≤ time)
          (given_from t c.sight k (counted t c frames) o).strange
      by None = all-map (λ d. d.moment ≤ time) (stranger_due t k)
          (map (λ x. x.arrival) (filter (λ x. left_at k.side k.port x && is_stranger t c.sight x.arrival)
          (counted t c frames)))
          (all-map (λ x. x.time ≤ time) (λ (x : Frame). x.arrival)
          (filter (λ x. left_at k.side k.port x && is_stranger t c.sight x.arrival) (counted t c frames))
          (all-filter (λ x. x.arrival.time ≤ time) (λ x. left_at k.side k.port x && is_stranger t c.sight x.arrival)
          (counted t c frames) all))
      by (Some place) = by-link (judged_to t c.sight k.side place k.port)

pub falling-more : (d : Due) (ds : List Due) → AllByRecursion (λ e. e.moment ≤ d.moment) ds → AreFalling ds
    → AreFalling (d ∷ ds)
unfolding AreFalling
falling-more d [] all falling = tt
falling-more d (e ∷ ds) all falling = (all.0, falling)

-- nothing was given
pub given-none : (t : Rows) (c : Choices) (until : ℕ) (kept : KeptByKey) →
    AreKept t c until None 0 nothing_given [] kept
    → AreKept t c until None 0 (given_of t c []) [] kept
unfolding AreFalling
given-none t c until kept are =
    kept-same t c until None 0 nothing_given (given_of t c []) [] kept (λ k known. none k)
    (λ k. subst (λ g. AreFalling g.strange) (sym (none k)) tt) are
  where
    by-link : (k : Key) (o : Option LinkRow) → linked k [] o ≡ given_with [] [] []
    by-link k None = refl
    by-link k (Some l) = refl

    by : (k : Key) (o : Option ℕ) → given_from t c.sight k [] o ≡ given_with [] [] []
    by k None = refl
    by k (Some place) = by-link k (judged_to t c.sight k.side place k.port)

    none : (k : Key) → given_of t c [] k ≡ nothing_given k
    none k = given-from t c [] k ∙ by k k.link
