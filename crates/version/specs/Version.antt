-- The version as one number: `osc_version` of include/osc.h.
use Rattle.std.specs.Prelude.{◌≡◌, ℕ, ◌+◌, ◌*◌, ◌/◌, ◌%◌, ◌<◌}

-- "major, minor and patch in bits 32 to 47, 16 to 31 and 0 to 15"
abbrev pub packed : (major minor patch : ℕ) → ℕ
packed major minor patch = major * 0x1_0000_0000 + minor * 0x1_0000 + patch

-- the version of this state: src/lib.rt has the same three numbers
abbrev pub version_number : ℕ
version_number = packed 0 16 2

-- a part has 16 bits
abbrev pub Part : ℕ → Type 0
Part n = n < 0x1_0000

-- each part is read back from its bits, and nothing stands above them
pub record ReadsBack (major minor patch : ℕ) : Type 0 where
  pub major_back : packed major minor patch / 0x1_0000_0000 ≡ major
  pub minor_back : packed major minor patch / 0x1_0000 % 0x1_0000 ≡ minor
  pub patch_back : packed major minor patch % 0x1_0000 ≡ patch
  pub nothing_above : packed major minor patch < 0x1_0000_0000_0000

-- of every version whose parts have 16 bits
abbrev pub VersionsReadBack : Type 0
VersionsReadBack = (major minor patch : ℕ) → Part major → Part minor → Part patch → ReadsBack major minor patch
