-- Steps (what the code leaves on its way; no call's contract reaches these): the places in the work buffer (01: memory). In words: zero encoding
-- d * 512, row d * 512, room of two more sharings, room of eight polynomials (4096), s, room for r, t, x. In signing r, and then the shares of z,
-- lie where key generation leaves room for r; w lies in the place of t, z in that of x.
use Rattle.std.specs.Prelude.{ℕ, ◌+◌, ◌*◌}

abbrev pub at_room : ℕ → ℕ
at_room d = 4 * (d * 512)

abbrev pub at_s : ℕ → ℕ
at_s d = at_room d + 4096

abbrev pub at_r : ℕ → ℕ → ℕ
at_r l d = at_s d + l * (d * 512)

abbrev pub at_t : ℕ → ℕ → ℕ
at_t l d = at_r l d + l * (d * 512)

abbrev pub at_x : ℕ → ℕ → ℕ → ℕ
at_x k l d = at_t l d + k * 512
