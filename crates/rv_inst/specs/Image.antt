-- The image of a program: bytes from one address on, and services by their numbers.
use Rattle.std.specs.Prelude.{ℕ, ◌+◌, ◌-◌, ◌%◌, ◌^◌, ◌≡◌, ◌<◌, ◌≤◌, ◌==◌, ◌&&◌, nat_le, List, length, slice_get, slice_range, find, All, Option, Some, None, if◌then◌else◌}
use Rattle.std.specs.Option.{option_map}
use Rattle.std.specs.List.{AllPairs}
use Rattle.std.specs.Int.{from_le_bytes, w32}
use Rattle.rv_inst.specs.declared.image.Image.{Image}

-- where the image's first byte stands
abbrev pub image_start : ℕ
image_start = 0x1_0000

-- the most bytes that an image has
abbrev pub image_limit : ℕ
image_limit = 2 ^ 20

-- the image's byte at an address, None where it has none
abbrev pub image_byte : List ℕ → ℕ → Option ℕ
image_byte image address =
    if nat_le image_start address then slice_get image (address - image_start) else None

-- the word of the four bytes from an address on, the lowest first, None where the image lacks one of them
abbrev pub image_word : List ℕ → ℕ → Option ℕ
image_word image address =
    if nat_le image_start address && nat_le (address + 4) (image_start + length image)
    then Some (from_le_bytes w32 (slice_range image (address - image_start) (address - image_start + 4)))
    else None

-- where the service of a number starts, None where there is no such service
abbrev pub service_entry : List (ℕ × ℕ) → ℕ → Option ℕ
service_entry services n = option_map (λ service. service.1) (find (λ service. service.0 == n) services)

-- the image is within its limit, starts and services stand at multiples of 4, and the services ascend
abbrev pub IsWellFormed : Image → Type 0
IsWellFormed image =
    (length image.bytes ≤ image_limit) × (image.main % 4 ≡ 0) × All (λ service. service.1 % 4 ≡ 0) image.services
    × AllPairs (λ a b. a.0 < b.0) image.services
