use Rattle.std.proofs.Common.{◌≡◌, ◌<◌, ◌≤◌, ℕ, Some, length, map, slice_get}
use Rattle.pfr_capture.specs.declared.capture.CaptureError.{CaptureError}
use Rattle.pfr_merge.specs.MergeReading.{AllRefilled, AllTold, HasPassedOn, IsSettled, StopsAt, Waiting, form_in, header_in}
use Rattle.pfr_merge.proofs.merge.refill_all.Given as goal

abbrev pub invariant-loop-place : goal.invariant-loop-place
invariant-loop-place g l = record {
  told : map g.S.Source.told l.sources ≡ map g.S.Source.told l.fn.sources;
  long : length l.sources ≡ length l.inputs;
  reads : AllTold (map g.S.Source.told l.fn.sources) → AllRefilled l.fn.inputs l.inputs (map g.S.Source.unread l.fn.sources) (map g.S.Source.unread l.sources);
  forms : map form_in l.inputs ≡ map form_in l.fn.inputs;
  headers : map header_in l.inputs ≡ map header_in l.fn.inputs;
  counted : (count : ℕ) → HasPassedOn count l.fn.inputs → HasPassedOn count l.inputs;
  settled : (k : ℕ) (w : Waiting) → k < l.place → slice_get l.inputs k ≡ Some w → IsSettled w;
  kept : (k : ℕ) → l.place ≤ k → slice_get l.inputs k ≡ slice_get l.fn.inputs k;
  stays : ((k : ℕ) (w : Waiting) → k < l.place → slice_get l.fn.inputs k ≡ Some w → IsSettled w) → (l.inputs ≡ l.fn.inputs) × (l.sources ≡ l.fn.sources);
  stops : (place : ℕ) (e : CaptureError) → StopsAt l.fn.inputs (place, e) → l.place ≤ place;
  failures : map g.S.Source.failures l.sources ≡ map g.S.Source.failures l.fn.sources;
}
