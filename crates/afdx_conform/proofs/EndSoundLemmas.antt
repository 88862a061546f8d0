-- The numbers of a stream stay within bounds where frames are cut off.
use Rattle.std.proofs.Common.{◌≡◌, ℕ, ◌+◌, ◌-◌, ◌≤◌, Bool, true, false, List, [], take, length, sym, ap, ◌∙◌, subst, arith}
use Rattle.std.proofs.lemmas.List.{length-take-le}
use Rattle.std.specs.Prelude.{All, if◌then◌else◌}
use Rattle.std.specs.Global.{Vec}
use Rattle.afdx_conform.specs.Growing.{IsSound}
use Rattle.afdx_conform.specs.HeldStates.{IsWithin}
use Rattle.afdx_conform.specs.declared.growth.Growth.{Growth}
use Rattle.afdx_conform.specs.declared.levels.Rates.{Rates}
use Rattle.afdx_conform.specs.declared.limits.LeftFrame.{LeftFrame}
use Rattle.afdx_conform.specs.declared.states.StreamState.{StreamState}

known-within : (rates : Rates) (frames count : ℕ) (b : Bool) (held : List StreamState)
    → All (λ h. IsWithin rates frames count h) held → All (λ h. IsWithin rates frames count h) (if b then held else [])
known-within rates frames count true held all = all
known-within rates frames count false held all = λ i d lt. absurd (omega (arith, lt))

few-within : (rates : Rates) (frames kept count front : ℕ) (held : List StreamState)
    → All (λ h. IsWithin rates frames count h) held
    → All (λ h. h.passed ≤ front) held → front ≤ kept → All (λ h. IsWithin rates kept count h) held
few-within rates frames kept count front held all few le i d lt =
    let h = all i d lt in
    let p = few i d lt in
    record { passed = omega (arith, p, le); waiting = h.waiting; levels = h.levels; near = h.near }

pub sound-end : (old : Growth) (frames' : Vec LeftFrame) (held' : Vec StreamState) (front kept size : ℕ)
    → held'.items ≡ (if old.is_started then old.judging.held.items else []) → frames'.items ≡ take kept old.frames.items
    → All (λ h. h.passed ≤ front) held'.items → front ≤ kept → old.closed ≤ kept → kept ≤ length old.frames.items
    → size ≡ length old.frames.items → IsSound old
    → IsSound (record old {
      frames = frames';
      judging = record old.judging { held = held' };
      left = old.left - (size - kept);
      cut = old.cut + (size - kept);
    })
sound-end old frames' held' front kept size held items few low closed high whole s =
    let size' : length frames'.items ≡ kept = ap (λ (l : List LeftFrame). length l) items
    ∙ length-take-le kept old.frames.items high in
    let f = s.frames in
    let l = s.left in
    record {
      rates = s.rates;
      within = subst (λ (n : ℕ). All (λ h. IsWithin old.bounds.rates n (length old.judging.marks.items) h)
          held'.items) (sym size')
          (few-within old.bounds.rates (length old.frames.items) kept (length old.judging.marks.items) front held'.items
          (subst (λ (k : List StreamState). All (λ h. IsWithin old.bounds.rates (length old.frames.items)
          (length old.judging.marks.items) h) k) (sym held)
          (known-within old.bounds.rates (length old.frames.items) (length old.judging.marks.items) old.is_started
          old.judging.held.items s.within)) few low);
      closed = omega (arith, closed, size');
      places = s.places;
      uncertain = s.uncertain;
      arrivals = s.arrivals;
      came = s.came;
      frames = omega (arith, f, size', high, whole);
      left = omega (arith, f, l, high, whole);
      known = s.known;
      settled = s.settled;
    }
