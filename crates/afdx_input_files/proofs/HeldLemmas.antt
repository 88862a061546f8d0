-- Places of a chunk, and what reads behind them give.
use Rattle.std.proofs.Common.{◌≡◌, Bool, true, false, ℕ, ◌+◌, ◌-◌, ◌≤◌, min, ◌^◌, cond}
use Rattle.std.proofs.Common.{List, [], ◌++◌, length, take, drop, refl, ap, sym, ◌∙◌, arith, ◌≢◌, ◌||◌, subst}
use Rattle.std.proofs.Common.{slice_range, append_assoc}
use Rattle.std.proofs.KnownBytes.{Consumes-trans, Consumes-nil}
use Rattle.std.proofs.lemmas.List.{append-nil, drop-take, drop-append-le}
use Rattle.std.proofs.lemmas.Bool.{false≢true}
use Rattle.std.proofs.lemmas.Grind.{common_steps}
use Rattle.afdx_input_lines.proofs.ReaderLemmas.{read_behind, kept_before}
use Rattle.afdx_input_files.specs.declared.held.Held.{Held}
use Rattle.afdx_input_files.specs.Holding.{unread, Standing, Gives, GivesSome, Passes}

pub unread_length : (held : Held) → length (unread held) ≡ held.end - held.start
unfolding unread
unread_length held = grind (arith, common_steps, held.within, held.ordered, held.chunk.ok.0)

pub between : (xs : List ℕ) (start end : ℕ) → start ≤ end
    → slice_range xs start end ≡ drop start (slice_range xs 0 end)
between xs start end h = grind (arith, common_steps, drop-take start (end - start) xs)

-- what a read gave stands behind what was held
pub read_after : (xs buf after more : List ℕ) (n start held count : ℕ) → start ≤ held
    → held ≤ length xs → held + count ≤ n → count ≤ length buf
    → slice_range (take n ((take held xs ++ (buf ++ after)) ++ more)) start (held + count)
    ≡ slice_range xs start held ++ take count buf
read_after xs buf after more n start held count ordered long within few =
    let size : start ≤ length (slice_range xs 0 held) = grind (arith, common_steps) in
    between (take n ((take held xs ++ (buf ++ after)) ++ more)) start (held + count) (omega arith)
    ∙ ap (drop start) (read_behind xs buf after more n held count long within few)
    ∙ drop-append-le start (slice_range xs 0 held) (take count buf) size
    ∙ ap (λ (bytes : List ℕ). bytes ++ take count buf) (sym (between xs start held ordered))

-- what was held stays
pub kept_after : (xs buf after more : List ℕ) (n start held : ℕ) → start ≤ held → held ≤ length xs
    → held ≤ n
    → slice_range (take n ((take held xs ++ (buf ++ after)) ++ more)) start held
    ≡ slice_range xs start held
kept_after xs buf after more n start held ordered long within =
    between (take n ((take held xs ++ (buf ++ after)) ++ more)) start held ordered
    ∙ ap (drop start) (kept_before xs buf after more n held long within)
    ∙ sym (between xs start held ordered)

-- a read into some room is one call, and the last one if it gave none
pub calls_of_read : (old_over new_over : Bool) (old new given : ℕ) → old_over ≡ false
    → new ≡ min (old + 1) (2 ^ 64 - 1) → (given ≡ 0 → new_over ≡ true)
    → new + cond old_over 1 0 ≤ old + given + cond new_over 1 0
calls_of_read old_over true old new given shut h last = rw shut (omega (arith, h))
calls_of_read old_over false old new given shut h last =
    let some : given ≢ 0 = λ none. false≢true (last none) in
    rw shut (omega (arith, h, some))

pub Gives-nothing : (at : Standing) → Gives at at []
Gives-nothing at = record { consumed = Consumes-nil at.left; calls = omega arith }

pub Gives-then : (a b c : Standing) (first next : List ℕ) → Gives a b first → Gives b c next
    → Gives a c (first ++ next)
Gives-then a b c first next h k = record {
  consumed = Consumes-trans a.left b.left c.left first next h.consumed k.consumed;
  calls = let size : length (first ++ next) ≡ length first + length next = grind (arith, common_steps) in
      omega (arith, h.calls, k.calls, size);
}

pub Passes-then : (a b c : Standing) (first next : List ℕ) → Passes a b first → Passes b c next
    → Passes a c (first ++ next)
Passes-then a b c first next h k = record {
  given = h.given ++ k.given;
  gives = Gives-then a b c h.given k.given h.gives k.gives;
  parts = sym (append_assoc a.held h.given k.given)
      ∙ ap (λ (bytes : List ℕ). bytes ++ k.given) h.parts
      ∙ append_assoc first b.held k.given
      ∙ ap (λ (bytes : List ℕ). first ++ bytes) k.parts
      ∙ sym (append_assoc first next c.held);
}

-- more is held
pub Passes-more : (a b c : Standing) (passed : List ℕ) → Passes a b passed → Passes b c [] → Passes a c passed
Passes-more a b c passed h k =
    subst (Passes a c) (append-nil passed) (Passes-then a b c passed [] h k)

pub Passes-gives : (old new : Standing) (passed : List ℕ) → Passes old new passed → GivesSome old new
Passes-gives old new passed passes = (passes.given, passes.gives)

-- what is held is passed
pub Passes-held : (old new : Standing) (passed : List ℕ) → old.held ≡ passed ++ new.held
    → new.left ≡ old.left → new.over ≡ old.over → new.calls ≡ old.calls → Passes old new passed
Passes-held old new passed held left over calls = record {
  given = [];
  gives = record {
    consumed = rw left (Consumes-nil old.left);
    calls = rw (over, calls) (omega arith);
  };
  parts = append-nil old.held ∙ held;
}

-- a part of what stands between two places
pub part_between : (xs : List ℕ) (start end from to : ℕ) → from ≤ to → to ≤ end - start
    → slice_range xs (start + from) (start + to) ≡ take (to - from) (drop from (slice_range xs start end))
part_between xs start end from to ordered within =
    grind (arith, common_steps, drop-take from (end - start - from) (drop start xs))

-- it gives no more if it gave its end
pub over_by_end : (failed ended : Bool) → ended ≡ true → (failed || ended) ≡ true
over_by_end true ended h = refl
over_by_end false ended h = h

-- more room behind changes nothing
pub same_front : (xs ys zs : List ℕ) (n start end : ℕ) → end ≤ length xs → length xs ≤ n
    → ys ≡ take n xs ++ zs → slice_range ys start end ≡ slice_range xs start end
same_front xs ys zs n start end within all h =
    let whole : take n xs ≡ xs = grind (arith, common_steps) in
    rw (h, whole) (grind (arith, common_steps))

-- what is held says nothing of what was given
pub Gives-same : (old mid new : Standing) (given : List ℕ) → Gives old mid given → new.left ≡ mid.left
    → new.over ≡ mid.over → new.calls ≡ mid.calls → Gives old new given
Gives-same old mid new given gives left over calls = record {
  consumed = rw left gives.consumed;
  calls = rw (over, calls) gives.calls;
}
