-- The busy time of a line, back from a moment: since it began, the line has sent without a pause.
use Rattle.std.proofs.Common.{◌≡◌, ◌≢◌, ℕ, ◌+◌, ◌*◌, ◌<◌, ◌≤◌, ◌==◌, ◌||◌, max, Bool, true, false}
use Rattle.std.proofs.Common.{List, [], ◌∷◌, inl, inr, refl, sym, arith}
use Rattle.std.specs.List.{AllByRecursion}
use Rattle.std.proofs.Math.Nat.{mul-le-mul_right}
use Rattle.std.proofs.lemmas.Bool.{cases_Bool, cases_lt}
use Rattle.afdx_frame.specs.declared.link.Priority.{Priority}
use Rattle.afdx_frame.specs.declared.link.Priority.TheVariants.{High, Low}
use Rattle.afdx_frame.specs.Flows.{is_class}
use Rattle.afdx_port.specs.Schedule.{Entry, Turn, has_turn, end_of, lasting, IsWithoutTurn, IsNext, AreTurns}
use Rattle.afdx_law_bounds.specs.Curve.{left_over}
use Rattle.afdx_law_bounds.proofs.WorkLemmas.{or-false, served}

-- the frames that count: those of both classes, or the high ones
abbrev pub counts : Bool → Priority → Bool
counts both class = both || is_class High class

counts-high : (both : Bool) (c d : Priority) → counts both c ≡ true → counts both d ≡ false → (c ≡ High) × (d ≢ High)
counts-high true c d h k = absurd (cc k)
counts-high false High High h k = absurd (cc k)
counts-high false High Low h k = (refl, λ e. cc e)
counts-high false Low d h k = absurd (cc h)

pub counts-is : (c : Priority) → counts false c ≡ true → c ≡ High
counts-is High h = refl
counts-is Low h = absurd (cc h)

pub counts-not : (c : Priority) → counts false c ≡ false → c ≡ Low
counts-not High h = absurd (cc h)
counts-not Low h = refl

pub is-counted : (c : Priority) → c ≡ High → counts false c ≡ true
is-counted High h = refl
is-counted Low h = absurd (cc h)

lasting-most : (byte_ns bytes : ℕ) (too_old : Bool) → lasting byte_ns too_old bytes ≤ (bytes + 20) * byte_ns
lasting-most byte_ns bytes true = omega arith
lasting-most byte_ns bytes false = omega arith

module _ {X : Type 0} where
  -- a turn ends after it begins, and lasts as long as its frame's slot would, or less
  pub record Lasts (byte_ns : ℕ) (s : Turn X) : Type 0 where
    pub after : s.moment ≤ s.end
    pub most : s.end ≤ s.moment + (s.entry.bytes + 20) * byte_ns

  pub lasts-of : (byte_ns : ℕ) (entries : List (Entry X)) (earlier : List (Turn X)) (s : Turn X) →
      IsNext byte_ns entries earlier s → Lasts byte_ns s
  lasts-of byte_ns entries earlier s next =
      let is : s.end ≡ s.moment + lasting byte_ns s.too_old s.entry.bytes = next.lasts in
      let most = lasting-most byte_ns s.entry.bytes s.too_old in
      record { after = omega (arith, is); most = omega (arith, is, most) }

  -- a frame that counts weighs its wire bytes, and another has at most `extra` of them
  pub record Weighs (weight : Entry X → ℕ) (both : Bool) (extra : ℕ) (e : Entry X) : Type 0 where
    pub full : counts both e.priority ≡ true → weight e ≡ e.bytes + 20
    pub small : counts both e.priority ≡ false → e.bytes + 20 ≤ extra

  -- until `now` the line has sent what counts since the moment `since`, after these earlier turns,
  -- and at most one frame that doesn't count
  pub record Busy (byte_ns : ℕ) (weight : Entry X → ℕ) (both : Bool) (extra : ℕ)
      (entries : List (Entry X)) (turns : List (Turn X)) (now : ℕ) : Type 0 where
    pub since : ℕ
    pub earlier : List (Turn X)
    pub come : (place : ℕ) (e : Entry X) → IsWithoutTurn entries earlier place e → counts both e.priority ≡ true →
        since ≤ e.time
    pub still : (place : ℕ) → has_turn turns place ≡ false → has_turn earlier place ≡ false
    pub begins : (t : ℕ) → (end_of turns < now → now ≤ t) → AllByRecursion (λ s. s.moment < t) turns → since ≤ t
    pub balance : byte_ns * left_over weight turns 0 entries + now ≤ since + byte_ns *
        (extra + left_over weight earlier 0 entries)

  -- no entry without a turn came before the next turn, if that begins after a pause
  pub pause : (byte_ns : ℕ) (entries : List (Entry X)) (earlier : List (Turn X)) (s : Turn X) →
      IsNext byte_ns entries earlier s → end_of earlier < s.moment →
      (place : ℕ) (e : Entry X) → IsWithoutTurn entries earlier place e → s.moment ≤ e.time
  pause byte_ns entries earlier s n gap place e free =
      let soon : s.moment ≤ max e.time (end_of earlier) =
      n.least (max e.time (end_of earlier)) place e free (omega arith) (omega arith) in
      omega arith

  pub busy : (byte_ns : ℕ) (weight : Entry X → ℕ) (both : Bool) (extra : ℕ) (entries : List (Entry X))
      (turns : List (Turn X)) → AreTurns byte_ns entries turns →
      AllByRecursion (λ s. Weighs weight both extra s.entry) turns →
      Busy byte_ns weight both extra entries turns (end_of turns)
  busy byte_ns weight both extra entries [] h w = record {
    since = 0;
    earlier = [];
    come = λ place e free class. omega arith;
    still = λ place free. free;
    begins = λ t idle started. omega arith;
    balance = omega arith;
  }
  busy byte_ns weight both extra entries (s ∷ rest) h w =
      let next : IsNext byte_ns entries rest s = h.0 in
      let lasts : s.end ≤ s.moment + (s.entry.bytes + 20) * byte_ns = (lasts-of byte_ns entries rest s next).most in
      let after : end_of rest ≤ s.moment = next.after in
      let taken = served weight s rest 0 s.place s.entry entries next.own.stands (omega arith) next.own.without in
      elim (cases_Bool (counts both s.entry.priority)) [
        | inr other ↦ (let small : s.entry.bytes + 20 ≤ extra = w.0.small other in
            let short : (s.entry.bytes + 20) * byte_ns ≤ extra * byte_ns = mul-le-mul_right byte_ns small in
            record {
              since = s.moment;
              earlier = s ∷ rest;
              come = λ place e free class. elim (cases_lt s.moment e.time) [
                | inl late ↦ omega arith
                | inr early ↦ absurd (let apart = counts-high both e.priority s.entry.priority class other in
                    apart.1 (next.high_first place e
                    (record {
                      stands = free.stands;
                      without = or-false (s.place == place) (has_turn rest place) free.without;
                    })
                    early apart.0))
              ];
              still = λ place free. free;
              begins = λ t idle started. (let first : s.moment < t = started.0 in omega arith);
              balance = omega (arith, short, lasts);
            })
        | inl class ↦ (let full : weight s.entry ≡ s.entry.bytes + 20 = w.0.full class in
            let work : byte_ns * left_over weight (s ∷ rest) 0 entries + (s.entry.bytes + 20) * byte_ns
            ≡ byte_ns * left_over weight rest 0 entries = rw (sym taken, full) (grind arith) in
            elim (cases_lt (end_of rest) s.moment) [
              | inl gap ↦ record {
                since = s.moment;
                earlier = rest;
                come = λ place e free c. pause byte_ns entries rest s next gap place e free;
                still = λ place free. or-false (s.place == place) (has_turn rest place) free;
                begins = λ t idle started. (let first : s.moment < t = started.0 in omega arith);
                balance = omega (arith, work, lasts);
              }
              | inr close ↦ (let r = busy byte_ns weight both extra entries rest h.1 w.1 in
                  record {
                    since = r.since;
                    earlier = r.earlier;
                    come = r.come;
                    still = λ place free. r.still place (or-false (s.place == place) (has_turn rest place) free);
                    begins = λ t idle started. r.begins t (λ lt. absurd (omega arith)) started.1;
                    balance = omega (arith, work, lasts, r.balance, after, close);
                  })
            ])
      ]

  -- the busy time back from any moment, if nothing that counts was left behind in a pause
  pub busy_at : (byte_ns : ℕ) (weight : Entry X → ℕ) (both : Bool) (extra : ℕ) (entries : List (Entry X))
      (turns : List (Turn X)) (now : ℕ) → AreTurns byte_ns entries turns →
      AllByRecursion (λ s. Weighs weight both extra s.entry) turns →
      (end_of turns < now → (place : ℕ) (e : Entry X) → IsWithoutTurn entries turns place e → now ≤ e.time) →
      Busy byte_ns weight both extra entries turns now
  busy_at byte_ns weight both extra entries turns now h w left =
      elim (cases_lt (end_of turns) now) [
        | inl idle ↦ record {
          since = now;
          earlier = turns;
          come = λ place e free c. left idle place e free;
          still = λ place free. free;
          begins = λ t soon started. soon idle;
          balance = omega arith;
        }
        | inr line ↦ (let r = busy byte_ns weight both extra entries turns h w in
            record {
              since = r.since;
              earlier = r.earlier;
              come = r.come;
              still = r.still;
              begins = λ t idle started. r.begins t (λ lt. absurd (omega arith)) started;
              balance = omega (arith, r.balance);
            })
      ]
