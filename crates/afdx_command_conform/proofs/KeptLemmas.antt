-- What is kept of all keys, once something came, or is told.
use Rattle.std.proofs.Common.{◌≡◌, ℕ, ◌+◌, ◌*◌, ◌<◌, ◌≤◌, inl, inr, Bool, true, false, List, [], ◌∷◌, ◌++◌, map, length, get_or, set, refl, sym, ap, ◌∙◌, subst, arith, true≢false}
use Rattle.std.proofs.lemmas.List.{get_or-set_same, length-set}
use Rattle.std.proofs.lemmas.Bool.{ltb-true}
use Rattle.std.proofs.lemmas.List.Elements.{All-cons, All-contains, All-tail}
use Rattle.std.proofs.lemmas.List.Sorted.{All-permutation, Contains-permutation}
use Rattle.std.proofs.lemmas.Map.Made.{Contains-tail}
use Rattle.std.specs.Prelude.{All, Contains, Option, Some, None, cond, reverse}
use Rattle.std.specs.List.Sorted.{IsPermutation}
use Rattle.afdx_law_bounds.proofs.ListLemmas.{contains_head, contains_tail}
use Rattle.afdx_config.specs.Lawful.{IsLawfulSwitch}
use Rattle.afdx_config.specs.Rows.{Rows}
use Rattle.afdx_conform.specs.Growing.{IsNoSooner, IsSameOrLater}
use Rattle.afdx_text.specs.declared.conform_line.ConformLine.{ConformLine}
use Rattle.afdx_command_conform.specs.Awaited.{Awaits, awaited, is_before, rank_of}
use Rattle.afdx_command_conform.specs.Choices.{Choices}
use Rattle.afdx_command_conform.specs.Keeping.{AreKept, Given, IsSomeUpTo, KeyStands, is_known, slot_at}
use Rattle.afdx_command_conform.specs.Keys.{IsKey, is_key, key_place, key_rank}
use Rattle.afdx_command_conform.specs.Lines.{AreInOrder, Due, due_at, last_rank, of_key}
use Rattle.afdx_command_conform.specs.Slots.{AreFalling, IsNewlyDue, told_at}
use Rattle.afdx_command_conform.specs.Waiting.{slot_due}
use Rattle.afdx_command_conform.specs.declared.agenda.AgendaEntry.{AgendaEntry}
use Rattle.afdx_command_conform.specs.declared.kept.KeptByKey.{KeptByKey}
use Rattle.afdx_command_conform.specs.declared.key.Key.{Key}
use Rattle.afdx_command_conform.specs.declared.slot.Slot.{Slot}
use Rattle.afdx_command_conform.proofs.AgendaLemmas.{key-small}
use Rattle.afdx_command_conform.proofs.KeyLemmas.{at-set, key-same, key-self, key-turned, known-within}

-- ---- what is awaited

pub awaits-old : (due : Option ℕ) (key : Key) (before after : List AgendaEntry) (e : AgendaEntry) →
    Awaits due key before after
    → Contains before e → Contains after e
awaits-old None key before after e is h = subst (λ l. Contains l e) (sym is) h
awaits-old (Some m) key before after e is h =
    Contains-permutation (awaited m key ∷ before) after e is (contains_tail (awaited m key) before e h)

pub awaits-new : (m : ℕ) (key : Key) (before after : List AgendaEntry) → Awaits (Some m) key before after
    → Contains after (awaited m key)
awaits-new m key before after is =
    Contains-permutation (awaited m key ∷ before) after (awaited m key) is (contains_head (awaited m key) before)

pub awaits-all : (P : AgendaEntry → Type 0) (due : Option ℕ) (key : Key) (before after : List AgendaEntry)
    → Awaits due key before after → ((m : ℕ) → P (awaited m key)) → All P before → All P after
awaits-all P None key before after is new all = subst (λ l. All P l) (sym is) all
awaits-all P (Some m) key before after is new all =
    All-permutation P (awaited m key ∷ before) after is (All-cons P (awaited m key) before (new m) all)

newly-awaited : (key : Key) (m : ℕ) (before due after : Option ℕ) (old new : List AgendaEntry) →
    IsNewlyDue before due after
    → Awaits due key old new
    → (before ≡ Some m → Contains old (awaited m key))
    → after ≡ Some m → Contains new (awaited m key)
newly-awaited key m before None after old new (inl same) awaits held is =
    awaits-old None key old new (awaited m key) awaits (held (sym same ∙ is))
newly-awaited key m before None after old new (inr none) awaits held is = absurd (cc)
newly-awaited key m before (Some d) after old new is' awaits held is =
    let same : d ≡ m = cc in
    subst (λ n. Contains new (awaited n key)) same (awaits-new d key old new awaits)

-- ---- ranks

no-sooner : (m : ℕ) (due : Option ℕ) (n : ℕ) → IsNoSooner m due → due ≡ Some n → m ≤ n
no-sooner m None n h is = absurd (cc)
no-sooner m (Some d) n h is = let same : d ≡ n = cc in subst (λ x. m ≤ x) same h

later-rank : (last time at m r : ℕ) → last ≤ time * 18446744073709551616 → time ≤ at → at ≤ m
    → last ≤ m * 18446744073709551616 + r
later-rank last time at m r early le later = omega (arith, early, le, later)

same-or-later : (last time at m r : ℕ) (before after : Option ℕ) → IsSameOrLater before at after → time ≤ at
    → last ≤ time * 18446744073709551616
    → (before ≡ Some m → last ≤ m * 18446744073709551616 + r)
    → after ≡ Some m → last ≤ m * 18446744073709551616 + r
same-or-later last time at m r before after (inl same) le early held is = held (sym same ∙ is)
same-or-later last time at m r before after (inr later) le early held is =
    later-rank last time at m r early le (no-sooner at after m later is)

-- ---- one more came

module _ (t : Rows) (c : Choices) (until : ℕ) where
  -- something came of a key: what is kept of it stands for that, and what is newly due is awaited
  pub kept-added : (lawful : IsLawfulSwitch t) (time : ℕ) (given to : Key → Given) (lines : List Due)
      (old new : KeptByKey)
      (key : Key) (slot : Slot) (due : Option ℕ) (at : ℕ)
      → is_known t key ≡ true
      → AreKept t c until None time given lines old
      → KeyStands t c until None time key (to key) (of_key key lines) slot
      → ((k : Key) → is_key key k ≡ false → to k ≡ given k)
      → IsNewlyDue (slot_due (slot_at old.slots.items key)) due (slot_due slot)
      → IsSameOrLater (slot_due (slot_at old.slots.items key)) at (slot_due slot)
      → time ≤ at
      → Awaits due key old.agenda new.agenda
      → new.slots.items ≡ set old.slots.items (key_place key) slot
      → ((k : Key) → AreFalling (to k).strange)
      → AreKept t c until None time to lines new
  kept-added lawful time given to lines old new key slot due at known kept stands same newly later le awaits slots
      falling =
      let within : key_place key < length old.slots.items = subst (λ n. key_place key < n) (sym kept.count)
      (known-within t key lawful known) in record {
        stand = subst (λ (l : List Slot). (k : Key) → is_known t k ≡ true
            → KeyStands t c until None time k (to k) (of_key k lines) (slot_at l k)) (sym slots)
            (at-set t key old.slots.items slot (λ k s. KeyStands t c until None time k (given k) (of_key k lines) s)
            (λ k s. KeyStands t c until None time k (to k) (of_key k lines) s) lawful known within stands
            (λ k s other kk p. subst (λ g. KeyStands t c until None time k g (of_key k lines) s) (sym (same k other)) p)
            kept.stand);
        none = kept.none;
        count = ap (λ (l : List Slot). length l) slots ∙ length-set old.slots.items (key_place key) slot ∙ kept.count;
        on_agenda = λ k m kk is. subst (λ (l : List Slot). (k' : Key) → is_known t k' ≡ true
            → (m' : ℕ) → slot_due (slot_at l k') ≡ Some m' → Contains new.agenda (awaited m' k')) (sym slots)
            (at-set t key old.slots.items slot (λ k' s. (m' : ℕ) → slot_due s ≡ Some m'
            → Contains old.agenda (awaited m' k'))
            (λ k' s. (m' : ℕ) → slot_due s ≡ Some m' → Contains new.agenda (awaited m' k')) lawful known within
            (λ m' is'. newly-awaited key m' (slot_due (slot_at old.slots.items key)) due (slot_due slot) old.agenda
            new.agenda
            newly awaits (λ e. kept.on_agenda key m' known e) is')
            (λ k' s other kk' p m' is'. awaits-old due key old.agenda new.agenda (awaited m' k') awaits (p m' is'))
            (λ k' kk' m' is'. kept.on_agenda k' m' kk' is')) k kk m is;
        known = awaits-all (λ e. is_known t e.key ≡ true) due key old.agenda new.agenda awaits (λ m. known) kept.known;
        behind = λ k m kk is. subst (λ (l : List Slot). (k' : Key) → is_known t k' ≡ true
            → (m' : ℕ) → slot_due (slot_at l k') ≡ Some m' → last_rank lines ≤ rank_of (awaited m' k')) (sym slots)
            (at-set t key old.slots.items slot (λ k' s. (m' : ℕ) → slot_due s ≡ Some m'
            → last_rank lines ≤ rank_of (awaited m' k'))
            (λ k' s. (m' : ℕ) → slot_due s ≡ Some m' → last_rank lines ≤ rank_of (awaited m' k')) lawful known within
            (λ m' is'. same-or-later (last_rank lines) time at m' (key_rank key)
            (slot_due (slot_at old.slots.items key)) (slot_due slot)
            later le (kept.early refl) (λ e. kept.behind key m' known e) is')
            (λ k' s other kk' p. p)
            (λ k' kk' m' is'. kept.behind k' m' kk' is')) k kk m is;
        in_order = kept.in_order;
        early = kept.early;
        falling = falling;
      }

-- ---- lines of a key

-- those that are told of it are all its own
pub of-told : (key : Key) (m : ℕ) (xs : List ConformLine) (lines : List Due)
    → of_key key (map (due_at key m) xs ++ lines) ≡ map (due_at key m) xs ++ of_key key lines
of-told key m [] lines = refl
of-told key m (x ∷ xs) lines =
    ap (λ b. cond b (due_at key m x ∷ of_key key (map (due_at key m) xs ++ lines))
    (of_key key (map (due_at key m) xs ++ lines)))
    (key-self key)
    ∙ ap (λ l. due_at key m x ∷ l) (of-told key m xs lines)

-- and none another's
pub of-other : (key k : Key) (m : ℕ) (xs : List ConformLine) (lines : List Due) → is_key k key ≡ false
    → of_key k (map (due_at key m) xs ++ lines) ≡ of_key k lines
of-other key k m [] lines other = refl
of-other key k m (x ∷ xs) lines other =
    ap (λ b. cond b (due_at key m x ∷ of_key k (map (due_at key m) xs ++ lines))
    (of_key k (map (due_at key m) xs ++ lines))) other
    ∙ of-other key k m xs lines other

pub last-told : (key : Key) (m : ℕ) (xs : List ConformLine) (lines : List Due)
    → last_rank lines ≤ rank_of (awaited m key)
    → last_rank (map (due_at key m) xs ++ lines) ≤ rank_of (awaited m key)
last-told key m [] lines le = le
last-told key m (x ∷ xs) lines le = omega arith

pub told-in-order : (key : Key) (m : ℕ) (xs : List ConformLine) (lines : List Due) → AreInOrder lines
    → last_rank lines ≤ rank_of (awaited m key)
    → AreInOrder (map (due_at key m) xs ++ lines)
unfolding AreInOrder
told-in-order key m [] lines order le = order
told-in-order key m (x ∷ xs) lines order le = (last-told key m xs lines le, told-in-order key m xs lines order le)

-- ---- what is due is told

module _ (t : Rows) (c : Choices) (until : ℕ) (ended : Option ℕ) (time : ℕ) (given : Key → Given) where
  pub first-known : (entry : AgendaEntry) (old rest : List AgendaEntry) → IsPermutation old (entry ∷ rest)
      → All (λ e. is_known t e.key ≡ true) old → is_known t entry.key ≡ true
  first-known entry old rest moved all =
      All-permutation (λ e. is_known t e.key ≡ true) old (entry ∷ rest) moved all 0 entry (omega arith)

  -- another's stays on the agenda
  still-awaited : (entry : AgendaEntry) (old rest : List AgendaEntry) (m : ℕ) (k : Key) →
      IsPermutation old (entry ∷ rest)
      → (entry ≡ awaited m k → ⊥) → Contains old (awaited m k) → Contains rest (awaited m k)
  still-awaited entry old rest m k moved other h =
      Contains-tail entry rest (awaited m k) other (Contains-permutation old (entry ∷ rest) (awaited m k) moved h)

  other-key : (entry : AgendaEntry) (m : ℕ) (k : Key) → is_key entry.key k ≡ false → entry ≡ awaited m k → ⊥
  other-key entry m k other is =
      true≢false (sym (key-self k) ∙ ap (λ x. is_key x k) (sym (ap (λ (e : AgendaEntry). e.key) is)) ∙ other)

  -- something else is due there: nothing changes but the agenda
  pub kept-stale : (lines : List Due) (old new : KeptByKey) (entry : AgendaEntry)
      → AreKept t c until ended time given lines old
      → IsPermutation old.agenda (entry ∷ new.agenda)
      → (slot_due (slot_at old.slots.items entry.key) ≡ Some entry.moment → ⊥)
      → new.slots.items ≡ old.slots.items
      → AreKept t c until ended time given lines new
  kept-stale lines old new entry kept moved stale slots = record {
    stand = subst (λ (l : List Slot). (k : Key) → is_known t k ≡ true
        → KeyStands t c until ended time k (given k) (of_key k lines) (slot_at l k)) (sym slots) kept.stand;
    none = kept.none;
    count = ap (λ (l : List Slot). length l) slots ∙ kept.count;
    on_agenda = λ k m known is.
        let due : slot_due (slot_at old.slots.items k) ≡ Some m = ap (λ (l : List Slot). slot_due (slot_at l k))
        (sym slots) ∙ is in
        still-awaited entry old.agenda new.agenda m k moved
        (λ same. stale (subst (λ (e : AgendaEntry). slot_due (slot_at old.slots.items e.key) ≡ Some e.moment)
        (sym same) due))
        (kept.on_agenda k m known due);
    known = All-tail (λ e. is_known t e.key ≡ true) entry new.agenda
        (All-permutation (λ e. is_known t e.key ≡ true) old.agenda (entry ∷ new.agenda) moved kept.known);
    behind = λ k m known is. kept.behind k m known (ap (λ (l : List Slot). slot_due (slot_at l k)) (sym slots) ∙ is);
    in_order = kept.in_order;
    early = kept.early;
    falling = kept.falling;
  }

  step-rank : (last moment m r : ℕ) → last ≤ moment * 18446744073709551616 + r → moment ≤ m
      → last ≤ m * 18446744073709551616 + r
  step-rank last moment m r le later = omega (arith, le, later)

  early-rank : (last moment r : ℕ) → last ≤ moment * 18446744073709551616 + r → moment < time
      → r < 18446744073709551616 → last ≤ time * 18446744073709551616
  early-rank last moment r le lt small = omega (arith, le, lt, small)

  -- it is told
  pub kept-stepped : (lawful : IsLawfulSwitch t) (lines : List Due) (old new : KeptByKey) (entry : AgendaEntry)
      (rest : List AgendaEntry)
      (slot : Slot) (told : List ConformLine)
      → IsKey entry.key
      → AreKept t c until ended time given lines old
      → IsPermutation old.agenda (entry ∷ rest)
      → All (λ y. rank_of entry ≤ rank_of y) rest
      → slot_due (slot_at old.slots.items entry.key) ≡ Some entry.moment
      → (ended ≡ None → entry.moment < time)
      → KeyStands t c until ended time entry.key (given entry.key)
      (told_at entry.key entry.moment told (of_key entry.key lines)) slot
      → IsNoSooner entry.moment (slot_due slot)
      → new.slots.items ≡ set old.slots.items (key_place entry.key) slot
      → Awaits (slot_due slot) entry.key rest new.agenda
      → AreKept t c until ended time given (told_at entry.key entry.moment told lines) new
  kept-stepped lawful lines old new entry rest slot told small kept moved first due lt stands later slots awaits =
      let key : Key = entry.key in
      let now : List Due = told_at key entry.moment told lines in
      let known = first-known entry old.agenda rest moved kept.known in
      let within : key_place key < length old.slots.items = subst (λ n. key_place key < n) (sym kept.count)
      (known-within t key lawful known) in
      let le : last_rank lines ≤ rank_of (awaited entry.moment key) = kept.behind key entry.moment known due in
      let last : last_rank now ≤ rank_of (awaited entry.moment key) =
      last-told key entry.moment (reverse told) lines le in
      let keeps : (k : Key) → is_key key k ≡ false → of_key k now ≡ of_key k lines =
      λ k other. of-other key k entry.moment (reverse told) lines (key-turned key k other) in record {
        stand = subst (λ (l : List Slot). (k : Key) → is_known t k ≡ true
            → KeyStands t c until ended time k (given k) (of_key k now) (slot_at l k)) (sym slots)
            (at-set t key old.slots.items slot (λ k s. KeyStands t c until ended time k (given k) (of_key k lines) s)
            (λ k s. KeyStands t c until ended time k (given k) (of_key k now) s) lawful known within
            (subst (λ l. KeyStands t c until ended time key (given key) l slot)
            (sym (of-told key entry.moment (reverse told) lines)) stands)
            (λ k s other kk p. subst (λ l. KeyStands t c until ended time k (given k) l s) (sym (keeps k other)) p)
            kept.stand);
        none = λ k unknown. keeps k (other-known k unknown known) ∙ kept.none k unknown;
        count = ap (λ (l : List Slot). length l) slots ∙ length-set old.slots.items (key_place key) slot ∙ kept.count;
        on_agenda = λ k m kk is. subst (λ (l : List Slot). (k' : Key) → is_known t k' ≡ true
            → (m' : ℕ) → slot_due (slot_at l k') ≡ Some m' → Contains new.agenda (awaited m' k')) (sym slots)
            (at-set t key old.slots.items slot (λ k' s. (m' : ℕ) → slot_due s ≡ Some m'
            → Contains old.agenda (awaited m' k'))
            (λ k' s. (m' : ℕ) → slot_due s ≡ Some m' → Contains new.agenda (awaited m' k')) lawful known within
            (λ m' is'. awaits-new m' key rest new.agenda (subst (λ d. Awaits d key rest new.agenda) is' awaits))
            (λ k' s other kk' p m' is'. awaits-old (slot_due slot) key rest new.agenda (awaited m' k') awaits
            (still-awaited entry old.agenda rest m' k' moved (other-key entry m' k' other) (p m' is')))
            (λ k' kk' m' is'. kept.on_agenda k' m' kk' is')) k kk m is;
        known = awaits-all (λ e. is_known t e.key ≡ true) (slot_due slot) key rest new.agenda awaits (λ m. known)
            (All-tail (λ e. is_known t e.key ≡ true) entry rest
            (All-permutation (λ e. is_known t e.key ≡ true) old.agenda (entry ∷ rest) moved kept.known));
        behind = λ k m kk is. subst (λ (l : List Slot). (k' : Key) → is_known t k' ≡ true
            → (m' : ℕ) → slot_due (slot_at l k') ≡ Some m' → last_rank now ≤ rank_of (awaited m' k')) (sym slots)
            (at-set t key old.slots.items slot (λ k' s. (m' : ℕ) → slot_due s ≡ Some m'
            → Contains old.agenda (awaited m' k'))
            (λ k' s. (m' : ℕ) → slot_due s ≡ Some m' → last_rank now ≤ rank_of (awaited m' k')) lawful known within
            (λ m' is'. step-rank (last_rank now) entry.moment m' (key_rank key) last
            (no-sooner entry.moment (slot_due slot) m' later is'))
            (λ k' s other kk' p m' is'. behind-first k' m' (still-awaited entry old.agenda rest m' k' moved
            (other-key entry m' k' other) (p m' is')) last)
            (λ k' kk' m' is'. kept.on_agenda k' m' kk' is')) k kk m is;
        in_order = told-in-order key entry.moment (reverse told) lines kept.in_order le;
        early = λ none. early-rank (last_rank now) entry.moment (key_rank key) last (lt none) (key-small key small);
        falling = kept.falling;
      }
    where
      other-known : (k : Key) → is_known t k ≡ false → is_known t entry.key ≡ true → is_key entry.key k ≡ false
      other-known k unknown known = by (is_key entry.key k) refl
        where
          by : (v : Bool) → is_key entry.key k ≡ v → is_key entry.key k ≡ false
          by false e = e
          by true e = absurd (true≢false (sym known ∙ ap (λ x. is_known t x) (key-same entry.key k e) ∙ unknown))

      behind-first : (k : Key) (m : ℕ) → Contains rest (awaited m k)
          → last_rank (told_at entry.key entry.moment told lines) ≤ rank_of (awaited entry.moment entry.key)
          → last_rank (told_at entry.key entry.moment told lines) ≤ rank_of (awaited m k)
      behind-first k m h last =
          let there = All-contains (λ y. rank_of entry ≤ rank_of y) rest (awaited m k) first h in
          omega (arith, last, there)

-- what is taken comes before that time
pub in-time : (time : ℕ) (before : Option ℕ) (x : AgendaEntry) → IsSomeUpTo time before → is_before before x ≡ true
    → x.moment < time
in-time time None x up is = absurd up
in-time time (Some before) x up is = let lt = ltb-true x.moment before is in omega (arith, lt, up)

pub read-set : (slots : List Slot) (i : ℕ) (s new : Slot) → i < length slots → s ≡ get_or (set slots i new) i s
    → s ≡ new
read-set slots i s new within is = is ∙ get_or-set_same slots i new s within
