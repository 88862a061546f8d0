-- One step of what is kept of a key.
use Rattle.std.proofs.Common.{◌≡◌, ℕ, ◌<◌, ◌≤◌, ◌⊎◌, inl, inr, true, List, length, refl, sym, ap, ◌∙◌, subst}
use Rattle.std.specs.Prelude.{Option, Some, None, Result, Ok, Err, IfOk, OnOk, All, Contains}
use Rattle.std.specs.List.{AllByRecursion}
use Rattle.afdx_config.specs.Lawful.{IsLawfulSwitch}
use Rattle.afdx_config.specs.Rows.{LinkRow, Rows}
use Rattle.afdx_police.specs.Arrival.{Arrival}
use Rattle.afdx_conform.specs.Streams.{Gone, Terms}
use Rattle.afdx_conform.specs.Growing.{IsNoSooner}
use Rattle.afdx_text.specs.declared.conform_line.ConformLine.{ConformLine}
use Rattle.afdx_command_conform.specs.Awaited.{awaited}
use Rattle.afdx_command_conform.specs.Choices.{Choices}
use Rattle.afdx_command_conform.specs.Frames.{terms_at}
use Rattle.afdx_command_conform.specs.Keeping.{AreKept, Given, IsOfLink, IsStreamOf, KeyStands, is_known, is_known_by, slot_at}
use Rattle.afdx_command_conform.specs.Lines.{Due, of_key}
use Rattle.afdx_command_conform.specs.Slots.{AreFalling, Ends, StrangersStand, StreamEnds, StreamStands, told_at}
use Rattle.afdx_command_conform.specs.Waiting.{slot_due}
use Rattle.afdx_command_conform.specs.declared.key.Key.{Key}
use Rattle.afdx_command_conform.specs.declared.kept.KeptByKey.{KeptByKey}
use Rattle.afdx_command_conform.specs.declared.slot.Slot.{Slot}
use Rattle.afdx_command_conform.proofs.AddedLemmas.{from-ended, from-stream, from-strangers, to-ended, to-stream, to-strangers}
use Rattle.afdx_command_conform.proofs.KeyLemmas.{known-link}
use Rattle.afdx_command_conform.proofs.SlotLemmas.{if-ok}

pub both-ok : {X E : Type 0} (P : X → Type 0) (Q : Type 0) (r : Result X E) → IfOk r P → OnOk r Q
    → IfOk r (λ x. P x × Q)
both-ok P Q (Ok x) p q = (p, q)
both-ok P Q (Err e) p q = tt

-- a key of the tables is a stream's, or has no link
pub known-cases : (t : Rows) (k : Key) → is_known t k ≡ true → (k.link ≡ None) ⊎ ((l : LinkRow) × IsStreamOf t k l)
unfolding is_known
known-cases t k known = by k.link refl known
  where
    by : (o : Option ℕ) → k.link ≡ o → is_known_by t k o ≡ true → (k.link ≡ None) ⊎ ((l : LinkRow) × IsStreamOf t k l)
    by None is h = inl is
    by (Some place) is h = let found = known-link t place k.port h in
        inr (found.0, subst (λ o. IsOfLink t k found.0 o) (sym is) found.1)

module _ (t : Rows) (c : Choices) (until : ℕ) (time : ℕ) (key : Key) (given : Given) (lines : List Due) (m : ℕ)
    (before after : Slot) {V E : Type 0} (items : V → List ConformLine) (r : Result V E) where
  -- what a step says of a stream whose end isn't known, of one whose is, and of frames of none
  abbrev pub StepsStream : Option ℕ → Type 0
  StepsStream ended = (z : Terms) (xs : List Arrival) (ys : List Gone) (ls : List Due) (bound moment : ℕ) → ended ≡ None
      → slot_due before ≡ Some moment → moment < bound → StreamStands z key xs ys ls bound before
      → IfOk r (λ told. StreamStands z key xs ys (told_at key moment (items told) ls) bound after
      × IsNoSooner moment (slot_due after))

  abbrev pub StepsEnded : Option ℕ → Type 0
  StepsEnded ended = (z : Terms) (xs : List Arrival) (ys : List Gone) (ls : List Due) (moment : ℕ)
      → ended ≡ Some z.until
      → slot_due before ≡ Some moment → StreamEnds z key xs ys ls before
      → IfOk r (λ told. StreamEnds z key xs ys (told_at key moment (items told) ls) after × IsNoSooner moment
      (slot_due after))

  abbrev pub StepsStrangers : Type 0
  StepsStrangers = (all ls : List Due) (moment : ℕ) → slot_due before ≡ Some moment → StrangersStand key all ls before
      → IfOk r (λ told. StrangersStand key all (told_at key moment (items told) ls) after)

  abbrev pub StepsLater : Type 0
  StepsLater = (all ls : List Due) (moment : ℕ) → AreFalling all → slot_due before ≡ Some moment
      → StrangersStand key all ls before → OnOk r (IsNoSooner moment (slot_due after))

  pub key-stepped : (ended : Option ℕ) → is_known t key ≡ true
      → AreFalling given.strange
      → StepsStream ended → StepsEnded ended → StepsStrangers → StepsLater
      → slot_due before ≡ Some m
      → (ended ≡ None → m < time)
      → KeyStands t c until ended time key given lines before
      → IfOk r (λ told. KeyStands t c until ended time key given (told_at key m (items told) lines) after
      × IsNoSooner m (slot_due after))
  key-stepped ended known falling streams ends strangers later due lt stands = elim (known-cases t key known) [
    | inl none ↦
        (let s = to-strangers t c until ended time key given lines before none stands in
        both-ok (λ told. KeyStands t c until ended time key given (told_at key m (items told) lines) after)
        (IsNoSooner m (slot_due after)) r (if-ok (λ told p. from-strangers t c until ended time key given
        (told_at key m (items told) lines) after none p) r
        (strangers given.strange lines m due s)) (later given.strange lines m falling due s))
    | inr of ↦ by-end ended of.0 of.1 streams ends lt stands
  ]
    where
      by-end : (e : Option ℕ) (l : LinkRow) → IsStreamOf t key l → StepsStream e → StepsEnded e → (e ≡ None → m < time)
          → KeyStands t c until e time key given lines before
          → IfOk r (λ told. KeyStands t c until e time key given (told_at key m (items told) lines) after
          × IsNoSooner m (slot_due after))
      by-end None l is streams ends lt stands =
          if-ok (λ told p. (
            from-stream t c until time key l given (told_at key m (items told) lines) after is p.0,
            p.1,
          )) r
          (streams (terms_at t c until l key.port) given.came given.left lines time m refl due (lt refl)
          (to-stream t c until time key l given lines before is stands))
      by-end (Some end) l is streams ends lt stands =
          let s = to-ended t c until time key l given lines before end is stands in
          if-ok (λ told p. (
            from-ended t c until time key l given (told_at key m (items told) lines) after end is
                (s.0, p.0),
            p.1,
          )) r
          (ends (terms_at t c until l key.port) given.came given.left lines m (ap (λ n. Some n) s.0) due s.1)

-- ---- the end

module _ (t : Rows) (c : Choices) (until : ℕ) (lawful : IsLawfulSwitch t) (time : ℕ) (given : Key → Given)
    (lines : List Due)
    (old new : KeptByKey) (le : time ≤ until)
    (in-time : (k : Key) → AllByRecursion (λ x. x.time ≤ until) (given k).came)
    (kept : AreKept t c until None time given lines old)
    (ends : (k : Key) → is_known t k ≡ true → Ends until (slot_at old.slots.items k) (slot_at new.slots.items k)) where
  ended-stands : (k : Key) → is_known t k ≡ true
      → KeyStands t c until (Some until) time k (given k) (of_key k lines) (slot_at new.slots.items k)
  ended-stands k known = elim (known-cases t k known) [
    | inl none ↦ from-strangers t c until (Some until) time k (given k) (of_key k lines) (slot_at new.slots.items k)
        none
        ((ends k known).strangers k (given k).strange (of_key k lines)
        (to-strangers t c until None time k (given k) (of_key k lines) (slot_at old.slots.items k) none
        (kept.stand k known)))
    | inr of ↦ from-ended t c until time k of.0 (given k) (of_key k lines) (slot_at new.slots.items k) until of.1 (
      refl,
      (ends k known).streams (terms_at t c until of.0 k.port) k (given k).came (given k).left (of_key k lines) time
          refl le
          (to-stream t c until time k of.0 (given k) (of_key k lines) (slot_at old.slots.items k) of.1
          (kept.stand k known)),
    )
  ]

  ended-due : (k : Key) (m : ℕ) → is_known t k ≡ true → slot_due (slot_at new.slots.items k) ≡ Some m
      → slot_due (slot_at old.slots.items k) ≡ Some m
  ended-due k m known is = elim (known-cases t k known) [
    | inl none ↦ sym ((ends k known).due_strange k (given k).strange (of_key k lines)
        (to-strangers t c until None time k (given k) (of_key k lines) (slot_at old.slots.items k) none
        (kept.stand k known))) ∙ is
    | inr of ↦ from-due m (slot_due (slot_at old.slots.items k)) (slot_due (slot_at new.slots.items k)) is
        ((ends k known).due (terms_at t c until of.0 k.port) k (given k).came (given k).left (of_key k lines) time
        refl le (in-time k)
        (to-stream t c until time k of.0 (given k) (of_key k lines) (slot_at old.slots.items k) of.1
        (kept.stand k known)))
  ]
    where
      from-due : (m : ℕ) (before after : Option ℕ) → after ≡ Some m → (after ≡ before) ⊎ (after ≡ None)
          → before ≡ Some m
      from-due m before after is (inl same) = sym same ∙ is
      from-due m before after is (inr none) = absurd (cc)

  pub kept-ended : new.agenda ≡ old.agenda → length new.slots.items ≡ length old.slots.items
      → AreKept t c until (Some until) time given lines new
  kept-ended agenda count = record {
    stand = ended-stands;
    none = kept.none;
    count = count ∙ kept.count;
    on_agenda = λ k m known is. subst (λ l. Contains l (awaited m k)) (sym agenda)
        (kept.on_agenda k m known (ended-due k m known is));
    known = subst (λ l. All (λ e. is_known t e.key ≡ true) l) (sym agenda) kept.known;
    behind = λ k m known is. kept.behind k m known (ended-due k m known is);
    in_order = kept.in_order;
    early = λ none. absurd (cc);
    falling = kept.falling;
  }
