-- The 34 values of the main header, each found by its keyword in the lines of document 01.
-- Assumes nothing.
use Rattle.std.specs.Prelude.{ℕ, List, ℤ, pos, replicate}
use Prim.Native.String.{String}
use Rattle.layout.specs.Bytes.{byte_at}
use Rattle.layout.specs.Text.{whole, value_of}
use Rattle.layout.specs.Lines.{mph}
use Rattle.layout.specs.Answer.{Answer, accepted, refused}
use Rattle.layout.specs.Entries.{header_number}
use Rattle.values.specs.declared.MainHeader.{MainHeader}

-- a q answers its bytes, a c its byte, sN and sA.B a whole number
abbrev pub text_of : List ℕ → String → List ℕ
text_of b key = value_of mph b key

abbrev pub char_of : List ℕ → String → ℕ
char_of b key = byte_at (value_of mph b key) 0

abbrev pub whole_of : List ℕ → String → ℤ
whole_of b key = whole (header_number b key)

unfoldable pub header_of : List ℕ → MainHeader
header_of b =
    record {
      identity =
          record {
            product = text_of b "PRODUCT";
            proc_stage = char_of b "PROC_STAGE";
            ref_doc = text_of b "REF_DOC";
            acquisition_station = text_of b "ACQUISITION_STATION";
            proc_center = text_of b "PROC_CENTER";
            proc_time = text_of b "PROC_TIME";
            software_ver = text_of b "SOFTWARE_VER";
          };
      sensing =
          record {
            sensing_start = text_of b "SENSING_START";
            sensing_stop = text_of b "SENSING_STOP";
            phase = char_of b "PHASE";
            cycle = whole_of b "CYCLE";
            rel_orbit = whole_of b "REL_ORBIT";
            abs_orbit = whole_of b "ABS_ORBIT";
          };
      orbit =
          record {
            state_vector_time = text_of b "STATE_VECTOR_TIME";
            delta_ut1 = whole_of b "DELTA_UT1";
            x_position = whole_of b "X_POSITION";
            y_position = whole_of b "Y_POSITION";
            z_position = whole_of b "Z_POSITION";
            x_velocity = whole_of b "X_VELOCITY";
            y_velocity = whole_of b "Y_VELOCITY";
            z_velocity = whole_of b "Z_VELOCITY";
            vector_source = text_of b "VECTOR_SOURCE";
          };
      clock =
          record {
            utc_sbt_time = text_of b "UTC_SBT_TIME";
            sat_binary_time = whole_of b "SAT_BINARY_TIME";
            clock_step = whole_of b "CLOCK_STEP";
            leap_utc = text_of b "LEAP_UTC";
            leap_sign = whole_of b "LEAP_SIGN";
            leap_err = char_of b "LEAP_ERR";
          };
      sizes =
          record {
            product_err = char_of b "PRODUCT_ERR";
            tot_size = whole_of b "TOT_SIZE";
            sph_size = whole_of b "SPH_SIZE";
            num_dsd = whole_of b "NUM_DSD";
            dsd_size = whole_of b "DSD_SIZE";
            num_data_sets = whole_of b "NUM_DATA_SETS";
          };
    }

-- beside a refusal every value is zero
abbrev pub no_header : MainHeader
no_header =
    record {
      identity =
          record {
            product = replicate 62 0;
            proc_stage = 0;
            ref_doc = replicate 23 0;
            acquisition_station = replicate 20 0;
            proc_center = replicate 6 0;
            proc_time = replicate 27 0;
            software_ver = replicate 14 0;
          };
      sensing =
          record {
            sensing_start = replicate 27 0;
            sensing_stop = replicate 27 0;
            phase = 0;
            cycle = pos 0;
            rel_orbit = pos 0;
            abs_orbit = pos 0;
          };
      orbit =
          record {
            state_vector_time = replicate 27 0;
            delta_ut1 = pos 0;
            x_position = pos 0;
            y_position = pos 0;
            z_position = pos 0;
            x_velocity = pos 0;
            y_velocity = pos 0;
            z_velocity = pos 0;
            vector_source = replicate 2 0;
          };
      clock =
          record {
            utc_sbt_time = replicate 27 0;
            sat_binary_time = pos 0;
            clock_step = pos 0;
            leap_utc = replicate 27 0;
            leap_sign = pos 0;
            leap_err = 0;
          };
      sizes =
          record { product_err = 0; tot_size = pos 0; sph_size = pos 0; num_dsd = pos 0; dsd_size = pos 0; num_data_sets = pos 0 };
    }

-- the values where the answer accepts, else none
abbrev pub header_for : Answer → List ℕ → MainHeader
header_for accepted b = header_of b
header_for (refused n p e) b = no_header
