-- The messages that a source's frames carry, by their places.
use Rattle.std.proofs.Common.{◌≡◌, ℕ, zero, suc, ◌+◌, ◌*◌, ◌-◌, ◌≤◌, ◌⊎◌, inl, inr, Bool, true, false, List, [], ◌∷◌, ◌++◌, length}
use Rattle.std.proofs.Common.{refl, sym, ap, ap₂, ◌∙◌, subst, arith, take, drop}
use Rattle.std.specs.Prelude.{◌==◌, if◌then◌else◌, get_or, Option, Some, None, Result, Ok, Err, slice_get}
use Rattle.std.specs.Option.{option_or}
use Rattle.std.proofs.lemmas.Bool.{ltb-false}
use Rattle.std.proofs.lemmas.List.{drop_at, drop-drop, drop-take, get_or-drop, get_or-take, length-append}
use Rattle.std.proofs.lemmas.List.{length-take-le, take-take}
use Rattle.afdx_frame.specs.Carried.{Carried, carried_by, carried_in_body}
use Rattle.afdx_frame.specs.Parts.{FrameParts, body_of_frame, frame_of, type_of_frame}
use Rattle.afdx_frame.specs.Sides.{is_side}
use Rattle.afdx_frame.specs.declared.fault.IpFault.{IpFault}
use Rattle.afdx_frame.specs.declared.fault.IpFault.TheVariants.{NotIpv4}
use Rattle.afdx_frame.specs.declared.fault.MacFault.{MacFault}
use Rattle.afdx_frame.specs.declared.link.Side.{Side}
use Rattle.afdx_frame.specs.declared.link.Side.TheVariants.{A, B}
use Rattle.afdx_config.specs.SentList.{Message}
use Rattle.afdx_police.specs.Shape.{first_of}
use Rattle.afdx_lawful.specs.Flaws.{common, flaw_carrying, flaw_in, flaw_of, frame_flaws}
use Rattle.afdx_lawful.specs.Sources.{Came, Source, on_side}
use Rattle.afdx_lawful.proofs.AcceptedLemmas.{right_long}
use Rattle.afdx_lawful.proofs.CleanLemmas.{AreClean, all_clean}
use Rattle.afdx_lawful.proofs.DistanceLemmas.{same_long}
use Rattle.afdx_law_recorded.specs.Pairs.{ArePairsByPlace}
use Rattle.afdx_law_recorded.specs.Receivers.{BothCarrySame, EachCarriesOne, messages_of, with_message}
use Rattle.afdx_law_recorded.proofs.PairLemmas.{uncut_in_pairs}
use Rattle.afdx_law_recorded.proofs.PlaceLemmas.{IsNewest, IsOlder, stands-cases, stands_at}

-- ---- a frame of which nothing is found

pub record IsGood (x : Came) : Type 0 where
  pub least : 64 ≤ length x.bytes
  pub most : length x.bytes ≤ 1518
  pub carried : Carried
  pub carries : carried_by x.bytes ≡ Ok carried

second-none : {X : Type 0} (o p : Option X) → option_or o p ≡ None → p ≡ None
second-none None p h = h
second-none (Some x) p h = absurd (cc h)

good-with : (s : Source) (x : Came) (r : Result FrameParts MacFault) (c : Result Carried IpFault) →
    frame_of x.bytes ≡ r → carried_by x.bytes ≡ c → flaw_in s x r ≡ None → flaw_carrying c ≡ None → IsGood x
good-with s x (Ok p) (Ok c) h e f k =
    let right = right_long x.bytes p h in record {
      least = ltb-false _ _ right.shortest;
      most = ltb-false _ _ right.longest;
      carried = c;
      carries = e;
    }
good-with s x (Ok p) (Err fault) h e f k = absurd (cc k)
good-with s x (Err fault) c h e f k = absurd (cc f)

reads : (s : Source) (x : Came) (r : Result FrameParts MacFault) → flaw_in s x r ≡ None →
    flaw_carrying (carried_by x.bytes) ≡ None
reads s x (Ok p) h = second-none (first_of (frame_flaws s x)) (flaw_carrying (carried_by x.bytes)) h
reads s x (Err fault) h = absurd (cc h)

good : (s : Source) (x : Came) → flaw_of s x ≡ None → IsGood x
unfolding flaw_of
good s x h =
    good-with s x (frame_of x.bytes) (carried_by x.bytes) refl refl h (reads s x (frame_of x.bytes) h)

unfoldable pub AreGood : List Came → Type 0
AreGood [] = Unit {0}
AreGood (x ∷ past) = IsGood x × AreGood past

pub good-on : (s : Source) (side : Side) (xs : List Came) → AreClean s xs → AreGood (on_side side xs)
unfolding AreGood AreClean
good-on s side [] h = tt
good-on s side (x ∷ past) h = by (is_side side x.side) (good-on s side past h.1)
  where
    by : (b : Bool) → AreGood (on_side side past) → AreGood (if b then x ∷ on_side side past else on_side side past)
    by true more = (good s x h.0.flawless, more)
    by false more = more

pub good-at : (ys : List Came) (k : ℕ) (y : Came) → AreGood ys → stands_at ys k ≡ Some y → IsGood y
unfolding AreGood stands_at
good-at [] k y h e = absurd (cc e)
good-at (x ∷ past) k y h e = by (stands-cases x past k y e) (λ f. good-at past k y h.1 f)
  where
    by : IsNewest x past k y ⊎ IsOlder past k y → (stands_at past k ≡ Some y → IsGood y) → IsGood y
    by (inl newest) more = subst (λ (w : Came). IsGood w) newest.same h.0
    by (inr older) more = more older.stands

-- ---- its message, by its place

pub slice-last : {X : Type 0} (xs : List X) (x : X) → slice_get (xs ++ x ∷ []) (length xs) ≡ Some x
slice-last [] x = refl
slice-last (y ∷ xs) x = slice-last xs x

pub slice-front : {X : Type 0} (xs more : List X) (n : ℕ) (x : X) → slice_get xs n ≡ Some x →
    slice_get (xs ++ more) n ≡ Some x
slice-front [] more n x h = absurd (cc h)
slice-front (y ∷ xs) more zero x h = h
slice-front (y ∷ xs) more (suc n) x h = slice-front xs more n x h

abbrev message_in : Carried → Message
message_in c = record { udp = c.to_port; payload = c.payload }

one-more : (x : Came) (past : List Came) (c : Carried) → carried_by x.bytes ≡ Ok c →
    messages_of (x ∷ past) ≡ messages_of past ++ message_in c ∷ []
unfolding messages_of
one-more x past c h = ap (λ (r : Result Carried IpFault). with_message r (messages_of past)) h

pub carry-one : (ys : List Came) → AreGood ys → length (messages_of ys) ≡ length ys
unfolding AreGood messages_of
carry-one [] h = refl
carry-one (x ∷ past) h =
    let more : length (messages_of past) ≡ length past = carry-one past h.1 in
    let own = ap length (one-more x past h.0.carried h.0.carries)
    ∙ length-append (messages_of past) (message_in h.0.carried ∷ []) in
    omega (arith, own, more)

pub record IsMessageAt (messages : List Message) (k : ℕ) (bytes : List ℕ) : Type 0 where
  pub message : Message
  pub at_place : slice_get messages k ≡ Some message
  pub from_port : ℕ
  pub carried :
      carried_by bytes ≡ Ok (record { from_port = from_port; to_port = message.udp; payload = message.payload })

pub message-at : (ys : List Came) (k : ℕ) (y : Came) → AreGood ys → stands_at ys k ≡ Some y →
    IsMessageAt (messages_of ys) k y.bytes
unfolding AreGood stands_at
message-at [] k y h e = absurd (cc e)
message-at (x ∷ past) k y h e = by (stands-cases x past k y e) (λ f. message-at past k y h.1 f)
  where
    by : IsNewest x past k y ⊎ IsOlder past k y →
        (stands_at past k ≡ Some y → IsMessageAt (messages_of past) k y.bytes) →
        IsMessageAt (messages_of (x ∷ past)) k y.bytes
    by (inl newest) more =
        let place : k ≡ length (messages_of past) = newest.last ∙ sym (carry-one past h.1) in
        subst (λ (w : Came). IsMessageAt (messages_of (x ∷ past)) k w.bytes) newest.same (record {
          message = message_in h.0.carried;
          at_place = ap (λ (l : List Message). slice_get l k) (one-more x past h.0.carried h.0.carries)
              ∙ ap (slice_get (messages_of past ++ message_in h.0.carried ∷ [])) place
              ∙ slice-last (messages_of past) (message_in h.0.carried);
          from_port = h.0.carried.from_port;
          carried = h.0.carries;
        })
    by (inr older) more =
        let before = more older.stands in record {
          message = before.message;
          at_place = ap (λ (l : List Message). slice_get l k) (one-more x past h.0.carried h.0.carries)
              ∙ slice-front (messages_of past) (message_in h.0.carried ∷ []) k before.message before.at_place;
          from_port = before.from_port;
          carried = before.carried;
        }

-- ---- copies carry the same

-- the bytes between that of the network and the check sequence
inner : List ℕ → List ℕ
inner bytes = drop 12 (take (length bytes - 4) bytes)

inner-of : (a : List ℕ) → 64 ≤ length a → drop 11 (common a) ≡ inner a
unfolding inner
inner-of a long =
    drop_at (take 11 a) (drop 12 (take (length a - 4) a)) 11 (length-take-le 11 a (omega (arith, long)))

inner-is : (a : List ℕ) (m : ℕ) → length a - 4 ≡ 12 + m → inner a ≡ take m (drop 12 a)
unfolding inner
inner-is a m h = ap (λ (n : ℕ). drop 12 (take n a)) h ∙ drop-take 12 m a

-- type and body of a frame, by these
type-in : (a : List ℕ) (m : ℕ) → 2 ≤ m →
    type_of_frame a ≡ get_or (take m (drop 12 a)) 0 0 * 256 + get_or (take m (drop 12 a)) 1 0
type-in a m some =
    ap₂ (λ (h l : ℕ). h * 256 + l)
    (sym (get_or-take m (drop 12 a) 0 0 (omega (arith, some)) ∙ get_or-drop 12 a 0 0))
    (sym (get_or-take m (drop 12 a) 1 0 (omega (arith, some)) ∙ get_or-drop 12 a 1 0))

body-in : (a : List ℕ) (p : ℕ) → length a - 19 ≡ p →
    body_of_frame a ≡ take p (drop 2 (take (2 + (p + 1)) (drop 12 a)))
body-in a p h =
    ap₂ (λ (n : ℕ) (l : List ℕ). take n l) h (sym (drop-drop 2 12 a))
    ∙ sym (take-take p (p + 1) (drop 2 (drop 12 a)) (omega arith))
    ∙ ap (take p) (sym (drop-take 2 (p + 1) (drop 12 a)))

by-type : ℕ → List ℕ → Result Carried IpFault
by-type kind body = if kind == 0x0800 then carried_in_body body else Err NotIpv4

carried-as : (a : List ℕ) → carried_by a ≡ by-type (type_of_frame a) (body_of_frame a)
unfolding carried_by by-type
carried-as a = refl

same-front : (a b : List ℕ) (m : ℕ) → 64 ≤ length a → 64 ≤ length b → common a ≡ common b → length a - 4 ≡ 12 + m →
    length b - 4 ≡ 12 + m → take m (drop 12 a) ≡ take m (drop 12 b)
same-front a b m long long' h of_a of_b =
    sym (inner-is a m of_a) ∙ sym (inner-of a long) ∙ ap (drop 11) h ∙ inner-of b long' ∙ inner-is b m of_b

carried-by-front : (a b : List ℕ) (p : ℕ) → length a - 19 ≡ p → length b - 19 ≡ p →
    take (2 + (p + 1)) (drop 12 a) ≡ take (2 + (p + 1)) (drop 12 b) → carried_by a ≡ carried_by b
carried-by-front a b p of_a of_b h =
    let kinds : type_of_frame a ≡ type_of_frame b =
    type-in a (2 + (p + 1)) (omega arith)
    ∙ ap (λ (l : List ℕ). get_or l 0 0 * 256 + get_or l 1 0) h
    ∙ sym (type-in b (2 + (p + 1)) (omega arith)) in
    let bodies : body_of_frame a ≡ body_of_frame b =
    body-in a p of_a ∙ ap (λ (l : List ℕ). take p (drop 2 l)) h ∙ sym (body-in b p of_b) in
    carried-as a ∙ ap₂ by-type kinds bodies ∙ sym (carried-as b)

pub same-carried : (a b : List ℕ) → 64 ≤ length a → 64 ≤ length b → common a ≡ common b → carried_by a ≡ carried_by b
same-carried a b long long' h =
    let same : length a ≡ length b = same_long a b long long' h in
    carried-by-front a b (length a - 19) refl (omega (arith, same))
    (same-front a b (2 + (length a - 19 + 1)) long long' h (omega (arith, long)) (omega (arith, long, same)))

same-messages : (s : Source) (xs ys : List Came) → ArePairsByPlace s xs ys → AreGood xs → AreGood ys →
    messages_of xs ≡ messages_of ys
unfolding messages_of AreGood
same-messages s [] [] pairs h k = refl
same-messages s [] (y ∷ ys) pairs h k = absurd pairs
same-messages s (x ∷ xs) [] pairs h k = absurd pairs
same-messages s (x ∷ xs) (y ∷ ys) pairs h k =
    ap₂ with_message (same-carried x.bytes y.bytes h.0.least k.0.least pairs.0.same)
    (same-messages s xs ys pairs.1 h.1 k.1)

pub each_carries_one : EachCarriesOne
each_carries_one s xs side quiet =
    carry-one (on_side side xs) (good-on s side xs (all_clean s xs quiet.coming))

pub both_carry_same : BothCarrySame
both_carry_same s xs awaited quiet uncut =
    let clean = all_clean s xs quiet.coming in
    same-messages s (on_side A xs) (on_side B xs) (uncut_in_pairs s xs awaited quiet uncut) (good-on s A xs clean)
    (good-on s B xs clean)
