-- The lines of the main header and of a DSD, as document 01 prints them. That they begin at the printed bytes is a theorem (proofs/Starts).
-- Assumes nothing.
use Rattle.std.specs.Prelude.{ℕ, List, [], ◌∷◌}
use Rattle.layout.specs.Text.{Line, named, spare, q, c, one_of, s, s_ab}

-- the bytes of the main header, and of a DSD
abbrev pub size_of_mph : ℕ
size_of_mph = 1247

abbrev pub size_of_dsd : ℕ
size_of_dsd = 280

-- the forty-one lines of the main header
unfoldable pub mph : List Line
mph =
    named "PRODUCT" (q 62) ""
    ∷ named "PROC_STAGE" c ""
    ∷ named "REF_DOC" (q 23) ""
    ∷ spare 40
    ∷ named "ACQUISITION_STATION" (q 20) ""
    ∷ named "PROC_CENTER" (q 6) ""
    ∷ named "PROC_TIME" (q 27) ""
    ∷ named "SOFTWARE_VER" (q 14) ""
    ∷ spare 40
    ∷ named "SENSING_START" (q 27) ""
    ∷ named "SENSING_STOP" (q 27) ""
    ∷ spare 40
    ∷ named "PHASE" c ""
    ∷ named "CYCLE" (s 3) ""
    ∷ named "REL_ORBIT" (s 5) ""
    ∷ named "ABS_ORBIT" (s 5) ""
    ∷ named "STATE_VECTOR_TIME" (q 27) ""
    ∷ named "DELTA_UT1" (s_ab 0 6) "<s>"
    ∷ named "X_POSITION" (s_ab 7 3) "<m>"
    ∷ named "Y_POSITION" (s_ab 7 3) "<m>"
    ∷ named "Z_POSITION" (s_ab 7 3) "<m>"
    ∷ named "X_VELOCITY" (s_ab 4 6) "<m/s>"
    ∷ named "Y_VELOCITY" (s_ab 4 6) "<m/s>"
    ∷ named "Z_VELOCITY" (s_ab 4 6) "<m/s>"
    ∷ named "VECTOR_SOURCE" (q 2) ""
    ∷ spare 40
    ∷ named "UTC_SBT_TIME" (q 27) ""
    ∷ named "SAT_BINARY_TIME" (s 10) ""
    ∷ named "CLOCK_STEP" (s 10) "<ps>"
    ∷ spare 32
    ∷ named "LEAP_UTC" (q 27) ""
    ∷ named "LEAP_SIGN" (s 3) ""
    ∷ named "LEAP_ERR" (one_of "01") ""
    ∷ spare 40
    ∷ named "PRODUCT_ERR" (one_of "01") ""
    ∷ named "TOT_SIZE" (s 20) "<bytes>"
    ∷ named "SPH_SIZE" (s 10) "<bytes>"
    ∷ named "NUM_DSD" (s 10) ""
    ∷ named "DSD_SIZE" (s 10) "<bytes>"
    ∷ named "NUM_DATA_SETS" (s 10) ""
    ∷ spare 40
    ∷ []

-- one DSD
unfoldable pub dsd : List Line
dsd =
    named "DS_NAME" (q 28) ""
    ∷ named "DS_TYPE" (one_of "MAGR") ""
    ∷ named "FILENAME" (q 62) ""
    ∷ named "DS_OFFSET" (s 20) "<bytes>"
    ∷ named "DS_SIZE" (s 20) "<bytes>"
    ∷ named "NUM_DSR" (s 10) ""
    ∷ named "DSR_SIZE" (s 10) "<bytes>"
    ∷ spare 32
    ∷ []

-- a spare DSD: 279 blanks and byte 10
unfoldable pub spare_dsd : List Line
spare_dsd = spare 279 ∷ []
