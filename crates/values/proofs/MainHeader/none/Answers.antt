-- `values::MainHeader::none` meets its contract: each number that `default` makes is zero, also in an array.
-- Assumes nothing.
use Rattle.values.proofs.Values.{zeros}
use Rattle.values.proofs.MainHeader.none.Goals as goal

pub returns : goal.returns
returns c =
    let (identity, (sensing, (orbit, (clock, (product_err, (tot_size, (sph_size, (num_dsd, (dsd_size, num_data_sets))))))))) = c.default.ensures in
    let (product, (proc_stage, (ref_doc, (acquisition_station, (proc_center, (proc_time, software_ver)))))) = identity in
    let (sensing_start, (sensing_stop, (phase, (orbit_cycle, (rel_orbit, abs_orbit))))) = sensing in
    let (state_vector_time, (delta_ut1, (x, (y, (z, (dx, (dy, (dz, vector_source)))))))) = orbit in
    let (utc_sbt_time, (sat_binary_time, (clock_step, (leap_utc, (leap_sign, leap_err))))) = clock in
    λ j. record {
      identity = record {
        product = zeros product j;
        proc_stage = proc_stage j;
        ref_doc = zeros ref_doc j;
        acquisition_station = zeros acquisition_station j;
        proc_center = zeros proc_center j;
        proc_time = zeros proc_time j;
        software_ver = zeros software_ver j;
      };
      sensing = record {
        sensing_start = zeros sensing_start j;
        sensing_stop = zeros sensing_stop j;
        phase = phase j;
        «cycle» = orbit_cycle j;
        rel_orbit = rel_orbit j;
        abs_orbit = abs_orbit j;
      };
      orbit = record {
        state_vector_time = zeros state_vector_time j;
        delta_ut1 = delta_ut1 j;
        x_position = x j;
        y_position = y j;
        z_position = z j;
        x_velocity = dx j;
        y_velocity = dy j;
        z_velocity = dz j;
        vector_source = zeros vector_source j;
      };
      clock = record {
        utc_sbt_time = zeros utc_sbt_time j;
        sat_binary_time = sat_binary_time j;
        clock_step = clock_step j;
        leap_utc = zeros leap_utc j;
        leap_sign = leap_sign j;
        leap_err = leap_err j;
      };
      sizes = record {
        product_err = product_err j;
        tot_size = tot_size j;
        sph_size = sph_size j;
        num_dsd = num_dsd j;
        dsd_size = dsd_size j;
        num_data_sets = num_data_sets j;
      };
    }
