-- `write_catalogue::write` has room for any file: an array is as long as it says, without its elements being counted. Assumes nothing.
use Rattle.std.proofs.Common.{◌≡◌, sym, subst, ℕ, ◌≤◌, arith, length, replicate}
use Rattle.std.proofs.lemmas.List.{length-replicate}
use Rattle.writing_laws.specs.Longest.{longest_file}
use Rattle.write_catalogue.proofs.write.Goals as goal

room_long : longest_file ≡ length (replicate {A = ℕ} longest_file 0)
room_long = sym (length-replicate {A = ℕ} longest_file 0)

pub slice_bounds-file-end : goal.slice_bounds-file-end
slice_bounds-file-end g c = room_long

pub write_through-requires : goal.write_through-requires
write_through-requires g c = let same : longest_file ≤ longest_file = omega arith in subst (λ (n : ℕ). longest_file ≤ n) room_long same
