-- The parameter table: Tables 2 to 4 of paper 000, a row for each set and order.
use Rattle.std.specs.Prelude.{◌≡◌, List, [], ◌∷◌, ◌⊎◌, ℕ, ◌+◌, ◌*◌, eqb, get_or, Result, Ok, Err}
use Rattle.hash.specs.Lists.{pick}
use Rattle.hash.specs.declared.params.Edition.{Edition}
use Rattle.hash.specs.declared.params.Params.{Params}
use Rattle.hash.specs.declared.params.Unknown.{Unknown}
use Rattle.hash.specs.declared.refusal.Refusal.{Refusal}

-- The columns: kappa, d, k, l, omega, 2^-64 B_2^2, B_inf, hint limit (B_inf / 2^44 to the nearest), bytes of vk, sk and sig, rep, u_t, u_w.
unfoldable pub rows : List (List ℕ)
rows =
    (128 ∷ 1 ∷ 5 ∷ 4 ∷ 19 ∷ 14656575897 ∷ 41954689765971 ∷ 2 ∷ 2256 ∷ 14800 ∷ 11524 ∷ 8 ∷ 6 ∷ 41 ∷ [])
    ∷ (128 ∷ 2 ∷ 5 ∷ 4 ∷ 19 ∷ 14656575897 ∷ 41954689765971 ∷ 2 ∷ 2256 ∷ 14816 ∷ 11524 ∷ 4 ∷ 6 ∷ 41 ∷ [])
    ∷ (128 ∷ 4 ∷ 5 ∷ 4 ∷ 19 ∷ 14656575897 ∷ 41954689765971 ∷ 2 ∷ 2256 ∷ 14848 ∷ 11524 ∷ 2 ∷ 6 ∷ 41 ∷ [])
    ∷ (128 ∷ 8 ∷ 5 ∷ 4 ∷ 19 ∷ 14656575897 ∷ 41954689765971 ∷ 2 ∷ 2256 ∷ 14912 ∷ 11524 ∷ 4 ∷ 5 ∷ 40 ∷ [])
    ∷ (128 ∷ 16 ∷ 5 ∷ 4 ∷ 19 ∷ 14656575897 ∷ 41954689765971 ∷ 2 ∷ 2256 ∷ 15040 ∷ 11524 ∷ 2 ∷ 5 ∷ 40 ∷ [])
    ∷ (128 ∷ 32 ∷ 5 ∷ 4 ∷ 19 ∷ 14656575897 ∷ 41954689765971 ∷ 2 ∷ 2256 ∷ 15296 ∷ 11524 ∷ 4 ∷ 4 ∷ 39 ∷ [])
    ∷ (192 ∷ 1 ∷ 7 ∷ 5 ∷ 31 ∷ 24964497408 ∷ 47419426657048 ∷ 3 ∷ 3160 ∷ 18840 ∷ 14544 ∷ 8 ∷ 7 ∷ 41 ∷ [])
    ∷ (192 ∷ 2 ∷ 7 ∷ 5 ∷ 31 ∷ 24964497408 ∷ 47419426657048 ∷ 3 ∷ 3160 ∷ 18864 ∷ 14544 ∷ 4 ∷ 7 ∷ 41 ∷ [])
    ∷ (192 ∷ 4 ∷ 7 ∷ 5 ∷ 31 ∷ 24964497408 ∷ 47419426657048 ∷ 3 ∷ 3160 ∷ 18912 ∷ 14544 ∷ 2 ∷ 7 ∷ 41 ∷ [])
    ∷ (192 ∷ 8 ∷ 7 ∷ 5 ∷ 31 ∷ 24964497408 ∷ 47419426657048 ∷ 3 ∷ 3160 ∷ 19008 ∷ 14544 ∷ 4 ∷ 6 ∷ 40 ∷ [])
    ∷ (192 ∷ 16 ∷ 7 ∷ 5 ∷ 31 ∷ 24964497408 ∷ 47419426657048 ∷ 3 ∷ 3160 ∷ 19200 ∷ 14544 ∷ 2 ∷ 6 ∷ 40 ∷ [])
    ∷ (192 ∷ 32 ∷ 7 ∷ 5 ∷ 31 ∷ 24964497408 ∷ 47419426657048 ∷ 3 ∷ 3160 ∷ 19584 ∷ 14544 ∷ 4 ∷ 5 ∷ 39 ∷ [])
    ∷ (256 ∷ 1 ∷ 9 ∷ 7 ∷ 44 ∷ 38439957299 ∷ 50958538642039 ∷ 3 ∷ 4064 ∷ 26016 ∷ 20330 ∷ 8 ∷ 6 ∷ 41 ∷ [])
    ∷ (256 ∷ 2 ∷ 9 ∷ 7 ∷ 44 ∷ 38439957299 ∷ 50958538642039 ∷ 3 ∷ 4064 ∷ 26048 ∷ 20330 ∷ 4 ∷ 6 ∷ 41 ∷ [])
    ∷ (256 ∷ 4 ∷ 9 ∷ 7 ∷ 44 ∷ 38439957299 ∷ 50958538642039 ∷ 3 ∷ 4064 ∷ 26112 ∷ 20330 ∷ 2 ∷ 6 ∷ 41 ∷ [])
    ∷ (256 ∷ 8 ∷ 9 ∷ 7 ∷ 44 ∷ 38439957299 ∷ 50958538642039 ∷ 3 ∷ 4064 ∷ 26240 ∷ 20330 ∷ 4 ∷ 5 ∷ 40 ∷ [])
    ∷ (256 ∷ 16 ∷ 9 ∷ 7 ∷ 44 ∷ 38439957299 ∷ 50958538642039 ∷ 3 ∷ 4064 ∷ 26496 ∷ 20330 ∷ 2 ∷ 5 ∷ 40 ∷ [])
    ∷ (256 ∷ 32 ∷ 9 ∷ 7 ∷ 44 ∷ 38439957299 ∷ 50958538642039 ∷ 3 ∷ 4064 ∷ 27008 ∷ 20330 ∷ 4 ∷ 4 ∷ 39 ∷ [])
    ∷ []

-- the place of a set among 128, 192, 256, or 3; of a share count among the six, or 6
abbrev pub set_index : ℕ → ℕ
set_index set = pick (eqb set 128) 0 (pick (eqb set 192) 1 (pick (eqb set 256) 2 3))

abbrev pub order_index : ℕ → ℕ
order_index d = pick (eqb d 1) 0 (pick (eqb d 2) 1 (pick (eqb d 4) 2 (pick (eqb d 8) 3 (pick (eqb d 16) 4 (pick (eqb d 32) 5 6)))))

-- d is one of the six share counts
pub record ShareCount (d : ℕ) : Type 0 where
  pub six : (d ≡ 1) ⊎ (d ≡ 2) ⊎ (d ≡ 4) ⊎ (d ≡ 8) ⊎ (d ≡ 16) ⊎ (d ≡ 32)

abbrev pub row_at : ℕ → List ℕ
row_at i = get_or rows i []

-- a row by its columns' names
abbrev pub params_of : List ℕ → Edition → Params
params_of r e =
    record {
      kappa = get_or r 0 0;
      shares = get_or r 1 0;
      k = get_or r 2 0;
      l = get_or r 3 0;
      omega = get_or r 4 0;
      b22 = get_or r 5 0;
      binf = get_or r 6 0;
      hint_limit = get_or r 7 0;
      vk_bytes = get_or r 8 0;
      sk_bytes = get_or r 9 0;
      sig_bytes = get_or r 10 0;
      rep = get_or r 11 0;
      ut = get_or r 12 0;
      uw = get_or r 13 0;
      edition = e;
    }

-- the record of a set and a share count, or which of the two is wrong, the set first
unfoldable pub lookup_of : ℕ → ℕ → Edition → Result Params Unknown
lookup_of set d e =
    pick (eqb (set_index set) 3)
    (Err Unknown.Set)
    (pick (eqb (order_index d) 6) (Err Unknown.Shares) (Ok (params_of (row_at (6 * set_index set + order_index d)) e)))

-- checks 1 and 2
abbrev pub refusal_of : Unknown → Refusal
refusal_of Unknown.Set = Refusal.BadSet
refusal_of Unknown.Shares = Refusal.BadShareCount
