-- Texts that are to be printed, byte by byte.
--   Listing       two files, and the text that is to be printed of them
--   listing_table  the table: document 01's files a.dp and b.dp ('Pairs'), b.dp with itself, two empty files, two files of ten inputs, and with
--                 signed inputs two constants, a.dp and b.dp, and constants of the shortest and the longest inputs
--   Listings      each text is what is printed
--   RefusedPair   two files that are refused, with the refusal's number, file and step
--   refused_table  the table: document 01's files, damaged so that each of 1 to 9 refuses one or the other, and so that two conditions hold
--   RefusedListings  of each the line of that refusal is printed
-- Both are proved in proofs/Listings, by one test over the whole table.
use Rattle.std.specs.Prelude.{◌≡◌, List, [], ◌∷◌, ◌++◌, map, ℕ, ◌+◌, replicate, set, take}
use Rattle.printed.specs.Report.{printed}

pub record Listing : Type 0 where
  pub file₁ : List ℕ
  pub file₂ : List ℕ
  pub text : List ℕ

-- document 01's a.dp: x1·x2 with m 2, n 1 and 2
unfoldable pub a·dp : List ℕ
a·dp =
    (0x02 ∷ 0x02 ∷ 0x03 ∷ 0x00 ∷ 0x01 ∷ 0x02 ∷ replicate 6 0x00)
    ++ (0x01 ∷ 0x01 ∷ 0x05 ∷ [])
    ++ replicate 8 0x00
    ++ (0x01 ∷ replicate 7 0x00)
    ++ (0x00 ∷ 0x00 ∷ 0x01 ∷ replicate 5 0x00)

-- document 01's b.dp: 0 with the same sizes
unfoldable pub b·dp : List ℕ
b·dp = (0x02 ∷ 0x02 ∷ 0x01 ∷ 0x00 ∷ 0x01 ∷ 0x02 ∷ replicate 6 0x00) ++ (0x02 ∷ []) ++ replicate 8 0x00

-- the width bytes of ten inputs
abbrev ten_widths : List ℕ
ten_widths = 0x01 ∷ 0x01 ∷ 0x01 ∷ 0x01 ∷ 0x01 ∷ 0x01 ∷ 0x01 ∷ 0x01 ∷ 0x01 ∷ 0x02 ∷ []

-- x9·x10 with m 2, ten inputs, and n10 2 where the others are 1
unfoldable pub ten_product : List ℕ
ten_product =
    (0x02 ∷ 0x0a ∷ 0x03 ∷ 0x00 ∷ ten_widths)
    ++ (0x01 ∷ 0x01 ∷ 0x05 ∷ [])
    ++ (0x08 ∷ replicate 7 0x00)
    ++ (0x09 ∷ replicate 7 0x00)
    ++ (0x00 ∷ 0x00 ∷ 0x01 ∷ replicate 5 0x00)

-- 0 with the same sizes
unfoldable pub ten_zero : List ℕ
ten_zero = (0x02 ∷ 0x0a ∷ 0x01 ∷ 0x00 ∷ ten_widths) ++ (0x02 ∷ []) ++ replicate 8 0x00

-- the constant c with m 8 and one signed input of 8 bits
unfoldable pub signed-constant : ℕ → List ℕ
signed-constant c = (0x08 ∷ 0x01 ∷ 0x01 ∷ 0x00 ∷ 0x88 ∷ replicate 7 0x00) ++ (0x02 ∷ []) ++ (c ∷ replicate 7 0x00)

-- the constant c with m 1, and inputs of the width byte w, of 64 bits, unsigned, and of 1 bit, signed
unfoldable pub extreme_constant : ℕ → ℕ → List ℕ
extreme_constant w c =
    (0x01 ∷ 0x03 ∷ 0x01 ∷ 0x00 ∷ w ∷ 0x40 ∷ 0x81 ∷ replicate 5 0x00) ++ (0x02 ∷ []) ++ (c ∷ replicate 7 0x00)

unfoldable pub listing_table : List Listing
listing_table =
    -- grid 2 4 = 8, differ 1 1 : 1 0, run 6
    record {
      file₁ = a·dp;
      file₂ = b·dp;
      text =
          (0x67 ∷ 0x72 ∷ 0x69 ∷ 0x64 ∷ 0x20 ∷ 0x32 ∷ 0x20 ∷ 0x34 ∷ 0x20 ∷ 0x3d ∷ 0x20 ∷ 0x38 ∷ 0x0a ∷ [])
          ++ (0x64 ∷ 0x69 ∷ 0x66 ∷ 0x66 ∷ 0x65 ∷ 0x72 ∷ 0x20 ∷ 0x31 ∷ 0x20 ∷ 0x31 ∷ 0x20 ∷ 0x3a ∷ 0x20 ∷ 0x31 ∷ 0x20 ∷ 0x30 ∷ 0x0a ∷ [])
          ++ (0x72 ∷ 0x75 ∷ 0x6e ∷ 0x20 ∷ 0x36 ∷ 0x0a ∷ []);
    }
    -- grid 2 4 = 8, equivalent, run 8
    ∷ record {
      file₁ = b·dp;
      file₂ = b·dp;
      text =
          (0x67 ∷ 0x72 ∷ 0x69 ∷ 0x64 ∷ 0x20 ∷ 0x32 ∷ 0x20 ∷ 0x34 ∷ 0x20 ∷ 0x3d ∷ 0x20 ∷ 0x38 ∷ 0x0a ∷ [])
          ++ (0x65 ∷ 0x71 ∷ 0x75 ∷ 0x69 ∷ 0x76 ∷ 0x61 ∷ 0x6c ∷ 0x65 ∷ 0x6e ∷ 0x74 ∷ 0x0a ∷ [])
          ++ (0x72 ∷ 0x75 ∷ 0x6e ∷ 0x20 ∷ 0x38 ∷ 0x0a ∷ []);
    }
    -- refused 1 1 0
    ∷ record {
      file₁ = [];
      file₂ = [];
      text = 0x72 ∷ 0x65 ∷ 0x66 ∷ 0x75 ∷ 0x73 ∷ 0x65 ∷ 0x64 ∷ 0x20 ∷ 0x31 ∷ 0x20 ∷ 0x31 ∷ 0x20 ∷ 0x30 ∷ 0x0a ∷ [];
    }
    -- grid 2 2 2 2 2 2 2 2 2 4 = 2048, differ 0 0 0 0 0 0 0 0 1 1 : 1 0, run 6
    ∷ record {
      file₁ = ten_product;
      file₂ = ten_zero;
      text =
          (0x67 ∷ 0x72 ∷ 0x69 ∷ 0x64 ∷ [])
          ++ (0x20 ∷ 0x32 ∷ 0x20 ∷ 0x32 ∷ 0x20 ∷ 0x32 ∷ 0x20 ∷ 0x32 ∷ 0x20 ∷ 0x32 ∷ 0x20 ∷ 0x32 ∷ 0x20 ∷ 0x32 ∷ 0x20 ∷ 0x32 ∷ [])
          ++ (0x20 ∷ 0x32 ∷ 0x20 ∷ 0x34 ∷ 0x20 ∷ 0x3d ∷ 0x20 ∷ 0x32 ∷ 0x30 ∷ 0x34 ∷ 0x38 ∷ 0x0a ∷ [])
          ++ (0x64 ∷ 0x69 ∷ 0x66 ∷ 0x66 ∷ 0x65 ∷ 0x72 ∷ [])
          ++ (0x20 ∷ 0x30 ∷ 0x20 ∷ 0x30 ∷ 0x20 ∷ 0x30 ∷ 0x20 ∷ 0x30 ∷ 0x20 ∷ 0x30 ∷ 0x20 ∷ 0x30 ∷ 0x20 ∷ 0x30 ∷ 0x20 ∷ 0x30 ∷ [])
          ++ (0x20 ∷ 0x31 ∷ 0x20 ∷ 0x31 ∷ 0x20 ∷ 0x3a ∷ 0x20 ∷ 0x31 ∷ 0x20 ∷ 0x30 ∷ 0x0a ∷ [])
          ++ (0x72 ∷ 0x75 ∷ 0x6e ∷ 0x20 ∷ 0x36 ∷ 0x0a ∷ []);
    }
    -- grid 10 = 10, differ -128 : 5 4, run 1
    ∷ record {
      file₁ = signed-constant 0x05;
      file₂ = signed-constant 0x04;
      text =
          (0x67 ∷ 0x72 ∷ 0x69 ∷ 0x64 ∷ 0x20 ∷ 0x31 ∷ 0x30 ∷ 0x20 ∷ 0x3d ∷ 0x20 ∷ 0x31 ∷ 0x30 ∷ 0x0a ∷ [])
          ++ (0x64 ∷ 0x69 ∷ 0x66 ∷ 0x66 ∷ 0x65 ∷ 0x72 ∷ 0x20 ∷ 0x2d ∷ 0x31 ∷ 0x32 ∷ 0x38 ∷ 0x20 ∷ 0x3a ∷ 0x20 ∷ 0x35 ∷ 0x20 ∷ 0x34 ∷ 0x0a ∷ [])
          ++ (0x72 ∷ 0x75 ∷ 0x6e ∷ 0x20 ∷ 0x31 ∷ 0x0a ∷ []);
    }
    -- x1 is 0 or 1, and x2 is signed, -2 to 1: grid 2 4 = 8, differ 1 -2 : 2 0, run 5
    ∷ record {
      file₁ = set a·dp 5 0x82;
      file₂ = set b·dp 5 0x82;
      text =
          (0x67 ∷ 0x72 ∷ 0x69 ∷ 0x64 ∷ 0x20 ∷ 0x32 ∷ 0x20 ∷ 0x34 ∷ 0x20 ∷ 0x3d ∷ 0x20 ∷ 0x38 ∷ 0x0a ∷ [])
          ++ (0x64 ∷ 0x69 ∷ 0x66 ∷ 0x66 ∷ 0x65 ∷ 0x72 ∷ 0x20 ∷ 0x31 ∷ 0x20 ∷ 0x2d ∷ 0x32 ∷ 0x20 ∷ 0x3a ∷ 0x20 ∷ 0x32 ∷ 0x20 ∷ 0x30 ∷ 0x0a ∷ [])
          ++ (0x72 ∷ 0x75 ∷ 0x6e ∷ 0x20 ∷ 0x35 ∷ 0x0a ∷ []);
    }
    -- grid 2 2 2 = 8, differ 0 0 -1 : 1 0, run 1
    ∷ record {
      file₁ = extreme_constant 0x01 0x01;
      file₂ = extreme_constant 0x01 0x00;
      text =
          (0x67 ∷ 0x72 ∷ 0x69 ∷ 0x64 ∷ 0x20 ∷ 0x32 ∷ 0x20 ∷ 0x32 ∷ 0x20 ∷ 0x32 ∷ 0x20 ∷ 0x3d ∷ 0x20 ∷ 0x38 ∷ 0x0a ∷ [])
          ++ (0x64 ∷ 0x69 ∷ 0x66 ∷ 0x66 ∷ 0x65 ∷ 0x72 ∷ 0x20 ∷ 0x30 ∷ 0x20 ∷ 0x30 ∷ 0x20 ∷ 0x2d ∷ 0x31 ∷ 0x20 ∷ 0x3a ∷ 0x20 ∷ 0x31 ∷ 0x20 ∷ 0x30 ∷ 0x0a ∷ [])
          ++ (0x72 ∷ 0x75 ∷ 0x6e ∷ 0x20 ∷ 0x31 ∷ 0x0a ∷ []);
    }
    -- x1 is signed, of 64 bits: grid 2 2 2 = 8, equivalent, run 8
    ∷ record {
      file₁ = extreme_constant 0xc0 0x01;
      file₂ = extreme_constant 0xc0 0x01;
      text =
          (0x67 ∷ 0x72 ∷ 0x69 ∷ 0x64 ∷ 0x20 ∷ 0x32 ∷ 0x20 ∷ 0x32 ∷ 0x20 ∷ 0x32 ∷ 0x20 ∷ 0x3d ∷ 0x20 ∷ 0x38 ∷ 0x0a ∷ [])
          ++ (0x65 ∷ 0x71 ∷ 0x75 ∷ 0x69 ∷ 0x76 ∷ 0x61 ∷ 0x6c ∷ 0x65 ∷ 0x6e ∷ 0x74 ∷ 0x0a ∷ [])
          ++ (0x72 ∷ 0x75 ∷ 0x6e ∷ 0x20 ∷ 0x38 ∷ 0x0a ∷ []);
    }
    ∷ []

abbrev pub Listings : Type 0
Listings = map (λ (l : Listing). printed l.file₁ l.file₂) listing_table ≡ map (λ (l : Listing). l.text) listing_table

pub record RefusedPair : Type 0 where
  pub file₁ : List ℕ
  pub file₂ : List ℕ
  pub number : ℕ
  pub file : ℕ
  pub step : ℕ

-- the line of a refusal whose number, file and step have one digit each
abbrev pub refused_bytes : RefusedPair → List ℕ
refused_bytes r =
    0x72 ∷ 0x65 ∷ 0x66 ∷ 0x75 ∷ 0x73 ∷ 0x65 ∷ 0x64 ∷ 0x20 ∷ (0x30 + r.number) ∷ 0x20 ∷ (0x30 + r.file) ∷ 0x20 ∷ (0x30 + r.step) ∷ 0x0a ∷ []

-- two files, and what they are refused by: number, file, step
abbrev refused : List ℕ → List ℕ → ℕ → ℕ → ℕ → RefusedPair
refused f₁ f₂ n f k = record { file₁ = f₁; file₂ = f₂; number = n; file = f; step = k }

unfoldable pub refused_table : List RefusedPair
refused_table =
    -- 1. no byte
    refused b·dp [] 1 2 0
    -- 2. m is 0; 3. d is 11; and both
    ∷ refused (set a·dp 0 0) b·dp 2 1 0
    ∷ refused b·dp (set b·dp 1 11) 3 2 0
    ∷ refused (set (set a·dp 0 0) 1 11) b·dp 2 1 0
    -- 3, of 13 bytes where d is 11; 1, of as many where d is 9; and m is 0, and N is 0
    ∷ refused b·dp (take 13 (set b·dp 1 11)) 3 2 0
    ∷ refused b·dp (take 13 (set b·dp 1 9)) 1 2 0
    ∷ refused (set (take 13 (set a·dp 1 9)) 0 0) b·dp 2 1 0
    ∷ refused (set (take 13 (set a·dp 1 9)) 2 0) b·dp 1 1 0
    -- 4. N is 0; 5. n2 is 65, an unused byte is 1; and N is 0 and n2 is 65
    ∷ refused (set a·dp 2 0) b·dp 4 1 0
    ∷ refused (set a·dp 5 65) b·dp 5 1 0
    ∷ refused b·dp (set b·dp 11 1) 5 2 0
    ∷ refused (set (set a·dp 2 0) 5 65) b·dp 4 1 0
    -- 5. n2 is signed, and 0 or 65 bits long; an unused byte is the mark alone
    ∷ refused (set a·dp 5 0x80) b·dp 5 1 0
    ∷ refused b·dp (set b·dp 5 0xc1) 5 2 0
    ∷ refused b·dp (set b·dp 11 0x80) 5 2 0
    -- 5. n10 is 2, and d is 9; 6. the length is that of a head of 12 bytes and 9N, and d is 10
    ∷ refused (set ten_product 1 9) b·dp 5 1 0
    ∷ refused (take 39 ten_product) b·dp 6 1 0
    -- 6. a byte is missing, and with it the operation of step 1 is 6
    ∷ refused (take 38 (set a·dp 13 6)) b·dp 6 1 0
    -- 7. the operation of step 1 is 6, and file 2 is empty
    ∷ refused (set a·dp 13 6) [] 7 1 1
    -- 8. the right operand of step 2 is itself; its upper half is 1; the index of step 0 is 2, and the operation of step 1 is 6
    ∷ refused (set a·dp 33 2) b·dp 8 1 2
    ∷ refused (set a·dp 35 1) b·dp 8 1 2
    ∷ refused (set (set a·dp 15 2) 13 6) b·dp 8 1 0
    -- 7 before 8 at one step
    ∷ refused (set (set a·dp 14 6) 33 2) b·dp 7 1 2
    -- 9. m is 3 in file 2, n2 is 3 in file 2
    ∷ refused a·dp (set b·dp 0 3) 9 0 0
    ∷ refused a·dp (set b·dp 5 3) 9 0 0
    -- n2 is 2 in both files, and signed in one of them
    ∷ refused a·dp (set b·dp 5 0x82) 9 0 0
    ∷ refused (set a·dp 5 0x82) b·dp 9 0 0
    -- n10 is 1 in file 2
    ∷ refused ten_product (set ten_zero 13 1) 9 0 0
    ∷ []

abbrev pub RefusedListings : Type 0
RefusedListings = map (λ (r : RefusedPair). printed r.file₁ r.file₂) refused_table ≡ map refused_bytes refused_table
